use Rattle.std.proofs.Common.{◌≡◌, map, drop}
use Rattle.word_forms.specs.Forms.{each, name_of}
use Rattle.word_forms.proofs.EachLemmas.{behind}
use Rattle.word_forms.proofs.paths.names.Given as goal

-- the names so far, and those that the other words say
abbrev pub invariant-loop-word : goal.invariant-loop-word
invariant-loop-word l =
    each name_of (map (λ word. word.now) l.words) ≡ behind l.names.items (each name_of (map (λ word. word.now) (drop l.word-index l.words)))
