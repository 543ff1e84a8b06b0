use Rattle.std.proofs.Common.{◌≡◌, ◌∙◌, Bool, true, false, List, ℕ, Some, None, cond, refl, sym, ap, subst}
use Rattle.std.proofs.lemmas.Bool.{both_ways}
use Rattle.word_forms.specs.Read.{Fails}
use Rattle.word_forms.specs.Forms.{fileset_of, is_fileset_name}
use Rattle.fileset_table.proofs.reading.name_of.Goals as goal

passed : (b : Bool) (x y : List ℕ) → cond b (Some x) None ≡ Some y → (b ≡ true) × (y ≡ x)
passed true x y is = (refl, cc)
passed false x y is = absurd (cc)

refused : (b : Bool) (x : List ℕ) → cond b (Some x) None ≡ None → b ≡ false
refused true x is = absurd (cc)
refused false x is = refl

pub returns-in-Ok : goal.returns-in-Ok
unfolding fileset_of
returns-in-Ok c =
    let read = passed (is_fileset_name c.args.bytes.now) c.args.bytes.now c.in-Ok.name c.in-Ok.ensures in
    (ap is_fileset_name read.1 ∙ read.0, read.1)

pub returns-in-Err-Malformed : goal.returns-in-Err-Malformed
unfolding fileset_of
returns-in-Err-Malformed c =
    let said = subst (λ fault. Fails fault (fileset_of c.args.bytes.now)) c.in-Err-Malformed.field-0-is c.in-Err-Malformed.ensures in
    λ x is. both_ways (is_fileset_name c.args.bytes.now) (refused (is_fileset_name c.args.bytes.now) c.args.bytes.now said) (sym (ap is_fileset_name is.1) ∙ is.0)
