use Rattle.std.proofs.Common.{◌≡◌, ◌∙◌, ◌≤◌, ◌++◌, ◌∷◌, [], List, Option, IfSome, length, ap, subst, sym, arith}
use Rattle.std.proofs.lemmas.Grind.{common_steps}
use Rattle.std.proofs.lemmas.List.{take_all}
use Rattle.std.proofs.lemmas.List.Elements.{filter_map-append}
use Rattle.std.specs.List.{AllByRecursion}
use Rattle.release_list.specs.cell_records.declared.record.Record.{Record}
use Rattle.release_list.specs.cell_records.Records.{Allowed}
use Rattle.release_list.specs.metadata_cells.Cell.{AreRecords, spellings}
use Rattle.release_steps.specs.QuotaChain.{records_for}
use Rattle.release_steps.proofs.SaidRecords.{one_more_allowed, records_fit, records_good}
use Rattle.release_steps.proofs.records.write_said.Goals as goal
use Rattle.release_steps.proofs.records.write_said.Goals.{in-Some+in_ok-push, in_default}

pub loop-who-preserved : goal.loop-who-preserved
loop-who-preserved c = record {
  value = grind (arith, common_steps, filter_map-append);
  allowed = elim c.match-record_of.branch [
    | in-Some+in_ok-push w ↦
        let e : c.match-record_of.records.items ≡ c.loop-who.records.items ++ w.in-Some.value ∷ [] = ap (λ v. v.items) w.records-is ∙ w.in_ok-push.ensures.items in
        let allowed = subst (λ (o : Option Record). IfSome o Allowed) w.in-Some.is c.record_of.ensures.allowed in
        subst (λ (rs : List Record). AllByRecursion Allowed rs) (sym e) (one_more_allowed c.loop-who.records.items w.in-Some.value c.loop-who.invariant.allowed allowed)
    | in_default w ↦
        let e : c.match-record_of.records.items ≡ c.loop-who.records.items = ap (λ v. v.items) w.records-is in
        subst (λ (rs : List Record). AllByRecursion Allowed rs) (sym e) c.loop-who.invariant.allowed
  ];
}

pub returns-clause-good : goal.returns-clause-good
returns-clause-good c =
    let said = c.args.said.now in
    let all = c.loop-who.invariant.value ∙ ap records_for (take_all c.loop-who.who-index said c.loop-who-test.false) in
    subst AreRecords (sym (c.from_vec.ensures ∙ all)) (records_good said c.requires.sorted (subst (λ (rs : List Record). AllByRecursion Allowed rs) all c.loop-who.invariant.allowed))

pub returns-clause-fits : goal.returns-clause-fits
returns-clause-fits c =
    let said = c.args.said.now in
    let all = c.loop-who.invariant.value ∙ ap records_for (take_all c.loop-who.who-index said c.loop-who-test.false) in
    subst (λ (rs : List Record). length (spellings rs) ≤ 272) (sym (c.from_vec.ensures ∙ all)) (records_fit said c.requires.few (subst (λ (rs : List Record). AllByRecursion Allowed rs) all c.loop-who.invariant.allowed))
