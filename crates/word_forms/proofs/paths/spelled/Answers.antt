use Rattle.std.proofs.Common.{◌≡◌, ◌∷◌, ap, ◌∙◌, option_map, rules}
use Rattle.word_forms.specs.Forms.{Begins, bytes_from}
use Rattle.word_forms.proofs.EachLemmas.{behind, behind-push}
use Rattle.word_forms.proofs.paths.spelled.Goals as goal

pub loop-rest-preserved : goal.loop-rest-preserved
loop-rest-preserved c =
    let next : bytes_from Begins c.loop-rest.rest.now ≡ option_map (λ more. c.in_ok-byte.byte ∷ more) (bytes_from Begins c.in_ok-byte.after.now) = search rules in
    rw c.in_ok-push.ensures.items
    (c.loop-rest.invariant ∙ ap (behind c.loop-rest.bytes.items) next ∙ behind-push c.loop-rest.bytes.items c.in_ok-byte.byte (bytes_from Begins c.in_ok-byte.after.now))
