use Rattle.std.proofs.Common.{◌≡◌, ◌∙◌, ◌++◌, ◌-◌, [], ap, sym, subst, refl, arith, length, drop, append-nil, Contains, IsSomeAnd, Some, None, true, List, ℕ, vec_capacity}
use Rattle.domain_turn.specs.Passes.{known}
use Rattle.domain_turn.specs.Plays.{MayPut, with_put}
use Rattle.domain_turn.specs.Telling.{Telling}
use Rattle.fileset_values.specs.declared.entry.Entry.{Entry}
use Rattle.domain_turn.specs.declared.ledger.Ledger.{Ledger}
use Rattle.domain_turn.proofs.Counting.{drop_front}
use Rattle.domain_turn.proofs.working.begin_job.Goals as goal

pub put_back-requires-clause-put : goal.put_back-requires-clause-put
put_back-requires-clause-put g c =
    let told : Telling (Ledger g.row.N.Denot g.N.Named) = record {
      history = λ ledger. ledger.entries.items;
      lasting = λ ledger. ledger.kept;
      rests = λ ledger. Unit {0};
      room = λ ledger. vec_capacity ledger.entries - length ledger.entries.items;
      begun = λ ledger. ledger.job;
    } in
    let taken = c.take-ledger.result in
    let value = c.set_job.new.ledger in
    let same = ap (λ v. v.items) c.set_job.ensures.same.0 in
    let is = same ∙ sym (append-nil taken.entries.items) in
    let added_is = ap (drop (length taken.entries.items)) is ∙ drop_front taken.entries.items [] in
    let size = ap length added_is in
    let long = ap length same in
    let kept = c.set_job.ensures.same.1 in
    let cap_same = ap (λ v. v.cap) c.set_job.ensures.same.0 in
    subst (λ o. IsSomeAnd o (λ t. MayPut told (known c.take-ledger.new.pass) t value)) (sym c.take-ledger.ensures.taken) record {
      rests = tt;
      grown = is ∙ ap (λ back. taken.entries.items ++ back) (sym added_is);
      left = omega (arith, size);
      actor = λ entry there. absurd (let (k, low, at) = subst (λ (entries : List Entry). Contains entries entry) added_is there in omega (arith, low));
      lasting = omega (arith, kept);
      room = omega (arith, long, size, cap_same);
      begun = λ other. c.set_job.ensures.other (λ is. other (ap (λ s. s.number) c.take-ledger.ensures.known ∙ sym c.number-number.ensures ∙ is));
    }

pub returns-clause-begun : goal.returns-clause-begun
returns-clause-begun g c mover =
    let told : Telling (Ledger g.row.N.Denot g.N.Named) = record {
      history = λ ledger. ledger.entries.items;
      lasting = λ ledger. ledger.kept;
      rests = λ ledger. Unit {0};
      room = λ ledger. vec_capacity ledger.entries - length ledger.entries.items;
      begun = λ ledger. ledger.job;
    } in
    let taken = c.take-ledger.result in
    let value = c.set_job.new.ledger in
    let same = ap (λ v. v.items) c.set_job.ensures.same.0 in
    let known_put : known c.put_back.new.pass ≡ with_put told (known c.take-ledger.new.pass) taken value
    = subst (λ o. IsSomeAnd o (λ t. known c.put_back.new.pass ≡ with_put told (known c.take-ledger.new.pass) t value)) c.take-ledger.ensures.taken c.put_back.ensures.known in
    ap (λ s. s.begun) known_put ∙ c.set_job.ensures.mover (c.number-number.ensures ∙ mover)
