-- What a function with a body adds to a program weighs no more than its head and its body.
use Rattle.std.proofs.Common.{◌≡◌, refl, ap, ◌∙◌, ℕ, suc, ◌+◌, ◌*◌, ◌≤◌, Bool, true, false, if◌then◌else◌, List, [], ◌∷◌, ◌++◌, length, None, arith}
use Rattle.std.proofs.Math.Nat.{mul-le-mul_left}
use Rattle.c_trees.specs.Declarators.{DeclaratorTree}
use Rattle.c_trees.specs.declared.declaration.Storage.{Storage}
use Rattle.c_trees.specs.Statements.{StatementTree}
use Rattle.c_typing.specs.Plain.{Plain}
use Rattle.c_typing.specs.Expressions.{Denoted}
use Rattle.c_typing.specs.Expressions as typing
use Rattle.c_judge.specs.Answers.{Known}
use Rattle.c_scope.specs.Environment.{Row, Environment, innermost, enter}
use Rattle.c_scope.specs.Declarators.{Parameter, Shape, Object, Function, shape}
use Rattle.c_mentions.specs.Literals.{Literal, texts, in_declarator, in_statement}
use Rattle.c_linkage.specs.Names.{FileName, composite, is_here, told_before}
use Rattle.c_file.specs.Files.{State, with_name, with_head, function_row, body_environment, bodied, behind_body, after_function}
use Rattle.compiled_tables.specs.Weights.{Rates, constructors, derived, of_typed, of_global, of_row, of_parameters, of_function, of_head, of_body}
use Rattle.compiled_tables.proofs.ShapeTypes.{shape_type, shape_more}
use Rattle.compiled_tables.proofs.Sums.{total_of_one, times_append}
use Rattle.compiled_tables.proofs.BodyTypes.{parameters_weight, shape_parameters, parameters_taken}
use Rattle.compiled_tables.proofs.BodyNames.{names_weight, block_weight, parameters_declared}

pub texts_long : (ls : List Literal) → length (texts ls) ≡ length ls
texts_long [] = refl
texts_long (l ∷ ls) = ap suc (texts_long ls)

module _ (r : Rates) where
  -- what the names, points, strings and functions of a program weigh
  abbrev pub made : State → ℕ
  made p = names_weight r p.here + (r.point * p.points + (r.string * length p.strings + r.function * length p.bodies))

  pub strings_more : (xs : List (List ℕ)) (ls : List Literal) → r.string * length (xs ++ texts ls) ≡ r.string * length xs + r.string * length ls
  strings_more xs ls = let e = ap (λ m. r.string * m) (texts_long ls) in omega (arith, times_append r.string xs (texts ls), e)

  -- ---- a name at file scope

  composite_same : (d e : Denoted) → of_global r (composite d e) ≡ of_global r d
  composite_same (typing.Object s b) (typing.Object t c) = refl
  composite_same (typing.Object s b) (typing.Function t ps) = refl
  composite_same (typing.Object s b) typing.Hidden = refl
  composite_same (typing.Function s ps) e = refl
  composite_same typing.Hidden e = refl

  -- what a name's declarations tell weighs as much as the last of them
  told_same : (fs : List FileName) (f : FileName) → of_global r (told_before fs f) ≡ of_global r f.denoted
  told_same [] f = refl
  told_same (g ∷ fs) f = by (is_here f.unit f.name g) (told_same fs f)
    where
      by : (b : Bool) → of_global r (told_before fs f) ≡ of_global r f.denoted → of_global r (if b then composite (told_before fs f) g.denoted else told_before fs f) ≡ of_global r f.denoted
      by true e = composite_same (told_before fs f) g.denoted ∙ e
      by false e = e

  pub named_made : (p : State) (f : FileName) → made (with_name p f) ≡ made p + of_global r f.denoted
  named_made p f =
      let row : Row = record { name = f.name; denoted = told_before p.names f; up = innermost p.here.visible; unit = p.here.unit; local = None } in
      omega (arith, total_of_one (of_row r) p.here.names row, told_same p.names f)

  -- ---- a function

  module _ (s : Storage) (d : DeclaratorTree) where
    head_made : (p : State) (t : Plain) (ps : List Parameter) → made (with_head p d (function_row s d p (Function t ps))) ≡ made p + (of_typed r t + r.string * length (in_declarator d))
    head_made p t ps = omega (arith, named_made p (function_row s d p (Function t ps)), strings_more p.strings (in_declarator d))

    pub body_made : (x : StatementTree) (p : State) (f : FileName) (t : Plain) (ps : List Parameter)
        → made (behind_body s d x p f t ps) ≤ made p + (r.function + parameters_weight r ps + 2 * r.point + of_body r x)
    body_made x p f t ps =
        let v : Environment = body_environment s d x p ps in
        let entered = parameters_declared r (record (enter p.here) { locals = 0 }) ps in
        let one = times_append r.function p.bodies (bodied s d x p f t ps ∷ []) in
        omega (arith, block_weight r v x, entered, one, strings_more p.strings (in_statement x))

    -- what is declared has so few constructors, and parameters that weigh so little
    pub function_made : (x : StatementTree) (p : State) (a : Shape) → constructors (shape_type a) ≤ suc (derived d) → shape_parameters r a ≤ of_function r d + of_parameters r d
        → made (after_function s d x p a) ≤ made p + (of_head r d + of_body r x)
    function_made x p (Object t) few taken = omega arith
    function_made x p (Function t ps) few taken =
        let f : FileName = function_row s d p (Function t ps) in
        let m = mul-le-mul_left r.constructor few in
        omega (arith, m, head_made p t ps, body_made x (with_head p d f) f t ps)

    -- what is declared of a type with one constructor
    pub definition_made : (x : StatementTree) (p : State) (v : Environment) (t : Plain) (a : Shape) → shape v d t ≡ Known a → constructors t ≡ 1
        → made (after_function s d x p a) ≤ made p + (of_head r d + of_body r x)
    definition_made x p v t a e one = function_made x p a (omega (arith, shape_more v d t a e, one)) (parameters_taken r v d t a e)
