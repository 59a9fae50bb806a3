use Rattle.std.proofs.Common.{◌≡◌, ◌-◌, ◌++◌, take, length}
use Rattle.table_model.specs.Frames.{words_from}
use Rattle.stack_walk.proofs.places.set_words.Given as goal

-- the words so far and those that are left are all
abbrev pub invariant-loop-i : goal.invariant-loop-i
invariant-loop-i l = record {
  size : length l.places ≡ 32;
  all : take l.i l.places ++ words_from (32 - l.i) l.word ≡ take l.from l.initial.places ++ words_from (32 - l.from) l.at;
}
