use Rattle.std.proofs.Common.{◌≡◌, ◌≤◌, true, drop}
use Rattle.std.specs.List.{list_all}
use Rattle.program_words.specs.Numbers.{is_digit, value_behind}
use Rattle.program_words.proofs.number.value_of.Given as goal

abbrev pub invariant-loop-byte : goal.invariant-loop-byte
invariant-loop-byte l = record {
  value : value_behind 0 l.word ≡ value_behind l.value (drop l.byte-index l.word);
  digits : list_all is_digit (drop l.byte-index l.word) ≡ true;
  fits : l.value ≤ l.most;
}
