use Rattle.std.proofs.Common.{rules, ◌∙◌, Bool, cond, nat_eq, None, Some, inr, ap, arith, refl}
use Rattle.std.proofs.lemmas.Bool.{eqb-true, false_from_ne_true}
use Rattle.release_steps.specs.cell_records.Records.{Allowed}
use Rattle.release_tables.proofs.clones.clone_record.Goals as goal

pub returns : goal.returns
unfolding Allowed
returns c =
    let at = c.args.at in
    let n = c.number.ensures in
    record {
      of_kind = refl;
      allowed = (inr ((n.range.0, n.range.1), omega (arith, c.if-at-ge28.false), search rules), c.ranges.frozen.fits);
      says =
          ap (λ (b : Bool). cond b None (Some (record { at = record { vol = c.number.result; page = at.page; cell = at.cell }; frozen = c.args.frozen })))
          (false_from_ne_true (nat_eq c.number.result 0) (λ same. omega (arith, n.range.0, eqb-true c.number.result 0 same)))
          ∙ (λ i. Some (record { at = record { vol = n.value i; page = at.page; cell = at.cell }; frozen = c.args.frozen }));
    }
