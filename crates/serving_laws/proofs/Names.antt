-- The numbers of the operators that a text uses.
use Rattle.std.proofs.Common.{◌≡◌, refl, codes, Some}
use Rattle.ps_store.specs.Operators.{operator_number}

pub exch_is : operator_number (codes "exch") ≡ Some 0
unfolding operator_number
exch_is = refl

pub dup_is : operator_number (codes "dup") ≡ Some 1
unfolding operator_number
dup_is = refl

pub index_is : operator_number (codes "index") ≡ Some 4
unfolding operator_number
index_is = refl

pub pop_is : operator_number (codes "pop") ≡ Some 2
unfolding operator_number
pop_is = refl

pub ifelse_is : operator_number (codes "ifelse") ≡ Some 17
unfolding operator_number
ifelse_is = refl

pub and_is : operator_number (codes "and") ≡ Some 48
unfolding operator_number
and_is = refl

pub or_is : operator_number (codes "or") ≡ Some 49
unfolding operator_number
or_is = refl

pub xor_is : operator_number (codes "xor") ≡ Some 50
unfolding operator_number
xor_is = refl

pub not_is : operator_number (codes "not") ≡ Some 51
unfolding operator_number
not_is = refl

pub eq_is : operator_number (codes "eq") ≡ Some 52
unfolding operator_number
eq_is = refl

pub ne_is : operator_number (codes "ne") ≡ Some 53
unfolding operator_number
ne_is = refl

pub lt_is : operator_number (codes "lt") ≡ Some 54
unfolding operator_number
lt_is = refl

pub le_is : operator_number (codes "le") ≡ Some 55
unfolding operator_number
le_is = refl

pub gt_is : operator_number (codes "gt") ≡ Some 56
unfolding operator_number
gt_is = refl

pub ge_is : operator_number (codes "ge") ≡ Some 57
unfolding operator_number
ge_is = refl

pub iadd_is : operator_number (codes "iadd") ≡ Some 69
unfolding operator_number
iadd_is = refl

pub isub_is : operator_number (codes "isub") ≡ Some 70
unfolding operator_number
isub_is = refl

pub imul_is : operator_number (codes "imul") ≡ Some 71
unfolding operator_number
imul_is = refl

pub idivs_is : operator_number (codes "idivs") ≡ Some 72
unfolding operator_number
idivs_is = refl

pub irem_is : operator_number (codes "irem") ≡ Some 73
unfolding operator_number
irem_is = refl

pub ineg_is : operator_number (codes "ineg") ≡ Some 74
unfolding operator_number
ineg_is = refl

pub udivs_is : operator_number (codes "udivs") ≡ Some 75
unfolding operator_number
udivs_is = refl

pub urem_is : operator_number (codes "urem") ≡ Some 76
unfolding operator_number
urem_is = refl

pub uadd_is : operator_number (codes "uadd") ≡ Some 77
unfolding operator_number
uadd_is = refl

pub usub_is : operator_number (codes "usub") ≡ Some 78
unfolding operator_number
usub_is = refl

pub umul_is : operator_number (codes "umul") ≡ Some 79
unfolding operator_number
umul_is = refl

pub ishl_is : operator_number (codes "ishl") ≡ Some 80
unfolding operator_number
ishl_is = refl

pub ishr_is : operator_number (codes "ishr") ≡ Some 81
unfolding operator_number
ishr_is = refl

pub ushr_is : operator_number (codes "ushr") ≡ Some 82
unfolding operator_number
ushr_is = refl

pub ult_is : operator_number (codes "ult") ≡ Some 83
unfolding operator_number
ult_is = refl

pub anchor_is : operator_number (codes "Anchor") ≡ Some 61
unfolding operator_number
anchor_is = refl

pub absolute_is : operator_number (codes "Absolute") ≡ Some 62
unfolding operator_number
absolute_is = refl

pub local_is : operator_number (codes "Local") ≡ Some 63
unfolding operator_number
local_is = refl

pub register_is : operator_number (codes "Register") ≡ Some 64
unfolding operator_number
register_is = refl

pub where_is : operator_number (codes "Where") ≡ Some 66
unfolding operator_number
where_is = refl

pub fetch_is : operator_number (codes "fetch") ≡ Some 67
unfolding operator_number
fetch_is = refl

pub ptradd_is : operator_number (codes "ptradd") ≡ Some 84
unfolding operator_number
ptradd_is = refl

pub ptrsub_is : operator_number (codes "ptrsub") ≡ Some 85
unfolding operator_number
ptrsub_is = refl

pub ptrcmp_is : operator_number (codes "ptrcmp") ≡ Some 86
unfolding operator_number
ptrcmp_is = refl

pub leaf_is : operator_number (codes "Leaf") ≡ Some 87
unfolding operator_number
leaf_is = refl
