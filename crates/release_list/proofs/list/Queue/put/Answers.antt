use Rattle.std.proofs.Common.{◌∙◌, ◌∷◌, ◌++◌, [], List, Contains, length, ap, arith, inr, subst, sym}
use Rattle.release_list.specs.declared.list.Entry.{Entry}
use Rattle.release_list.specs.Listing.{Roomy}
use Rattle.release_list.proofs.list.Queue.put.Goals as goal

pub returns-in_err-reserve-in-None-clause-there : goal.returns-in_err-reserve-in-None-clause-there
returns-in_err-reserve-in-None-clause-there c = λ entry inside is.
    let same = sym (ap (λ (q : Roomy). q.list.entries) c.self.view_is) ∙ sym c.as_slice.ensures.value in
    absurd (c.in-None.ensures.none entry (subst (λ (es : List Entry). Contains es entry) same inside) is)

pub returns-in_ok-reserve-in-None-clause-puts : goal.returns-in_ok-reserve-in-None-clause-puts
returns-in_ok-reserve-in-None-clause-puts c =
    let entries = ap (λ (q : Roomy). q.list.entries) c.self.view_is in
    inr (record {
      behind = omega (arith, c.len-behind.ensures, c.self.inside.entries.ok.0, ap length entries);
      none = λ entry inside. c.in-None.ensures.none entry (subst (λ (es : List Entry). Contains es entry) (sym entries ∙ sym c.as_slice.ensures.value) inside);
      is = c.push_reserved.ensures.items ∙ ap (λ (es : List Entry). es ++ record { at = c.args.at; clone = c.args.clone } ∷ []) (c.in_ok-reserve-in-None.ensures.items ∙ entries);
    })
