use Rattle.std.proofs.Common.{◌≡◌, drop}
use Rattle.std.specs.List.{find}
use Rattle.std.specs.Str.{bytes_eq}
use Rattle.command_text.specs.Commands.{row_of, verb_of}
use Rattle.command_text.proofs.verb.known_verb.Given as goal

-- none of the ones so far is named
abbrev pub invariant-loop-verb : goal.invariant-loop-verb
invariant-loop-verb l = find (λ v. bytes_eq (row_of v).text l.word) (drop l.verb-index l.verb-items) ≡ verb_of l.word
