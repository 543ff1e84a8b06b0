use Rattle.std.proofs.Common.{◌≡◌, ◌∙◌, ap, sym, subst, arith, [], ◌∷◌, length, List, Some, Option, Bool, if◌then◌else◌, ◌++◌, ⊎_elim, Contains}
use Rattle.atomic_table.specs.Table.{opening}
use Rattle.domain_turn.specs.declared.pass.Pass.{Pass as PassOf}
use Rattle.domain_turn.specs.Kept.{Kept, first_view, shares_from}
use Rattle.domain_turn.specs.Telling.{telling}
use Rattle.domain_turn.specs.Views.{total}
use Rattle.domain_turn.specs.declared.view.Beginning.{Beginning}
use Rattle.domain_turn.proofs.Opening.{length_from, opens}
use Rattle.domain_turn.proofs.table.Turn.new.Goals as goal

pub new-requires : goal.new-requires
new-requires g c =
    let told = telling g.T.Told.history g.T.Told.lasting g.T.Told.rests g.T.Told.room g.T.Told.begun in
    let start : Beginning g.row.T.Denot = record { value = c.of.result; lefts = c.extend_from_slice.new.self } in
    let same = sym c.of.ensures in
    let copied = c.extend_from_slice.ensures.items in
    let lefts : c.extend_from_slice.new.self.items ≡ c.args.lefts.now = c.extend_from_slice.ensures.items
    ∙ ap (λ (b : Bool). if b then c.new-copies.result.items ++ c.args.lefts.now else c.new-copies.result.items) c.if-is_err.ensures.negation
    ∙ ap (λ front. front ++ c.args.lefts.now) c.new-copies.ensures.items in
    subst (λ (slots : List (Option g.row.T.Denot)). Kept told start (opening (0 ∷ 0 ∷ c.committed-committed.result ∷ c.durable-durable.result ∷ 0 ∷ []) slots (first_view told start)))
    (ap (λ (v : g.row.T.Denot). Some v ∷ []) (sym same) ∙ sym c.in-Ok-only.ensures.ok)
    (opens told start c.committed-committed.result c.durable-durable.result
    (c.committed-committed.ensures ∙ ap (λ (v : g.row.T.Denot). length (g.T.Told.history v)) same)
    (c.durable-durable.ensures ∙ ap g.T.Told.lasting same)
    (subst g.T.Told.rests same c.requires.rests)
    (let room = c.requires.room in let sum = ap (total (λ left. left)) lefts in let value = ap g.T.Told.room same in omega (arith, room, sum, value))
    (let few = c.requires.count.1 in let long = ap length lefts in omega (arith, few, long)))

pub deal-requires-clause-all : goal.deal-requires-clause-all
deal-requires-clause-all g c =
    let told = telling g.T.Told.history g.T.Told.lasting g.T.Told.rests g.T.Told.room g.T.Told.begun in
    let lefts : c.extend_from_slice.new.self.items ≡ c.args.lefts.now = c.extend_from_slice.ensures.items
    ∙ ap (λ (b : Bool). if b then c.new-copies.result.items ++ c.args.lefts.now else c.new-copies.result.items) c.if-is_err.ensures.negation
    ∙ ap (λ front. front ++ c.args.lefts.now) c.new-copies.ensures.items in
    ap (λ m. m.0.shares) c.in-Ok-new.ensures.ok.4 ∙ ap (shares_from told c.of.result.value 0) lefts

pub returns-in-Ok-new-clause-here : goal.returns-in-Ok-new-clause-here
returns-in-Ok-new-clause-here g c = λ pass there. ⊎_elim (λ before. absurd (let (k, low, is) = subst (λ (items : List (PassOf g.row.T.Denot)). Contains items pass) c.in-Ok.ensures.items before in omega (arith, low))) (λ its. its) (c.deal.ensures.here pass there)
