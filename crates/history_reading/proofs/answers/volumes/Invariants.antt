use Rattle.std.proofs.Common.{◌≡◌, map, drop}
use Rattle.history_reading.specs.Reading.{volume_item_of}
use Rattle.script_text.specs.word_forms.Forms.{each}
use Rattle.script_text.proofs.OfWordForms.EachLemmas.{behind}
use Rattle.history_reading.proofs.answers.volumes.Given as goal

-- the rows so far, and those that the other words say
abbrev pub invariant-loop-word : goal.invariant-loop-word
invariant-loop-word l =
    each volume_item_of (map (λ word. word.now) l.words) ≡ behind l.items.items (each volume_item_of (map (λ word. word.now) (drop l.word-index l.words)))
