use Rattle.std.proofs.Common.{◌≡◌, ◌∙◌, ◌++◌, ◌-◌, ap, sym, subst, refl, arith, length, length-append, drop, Contains, IsSomeAnd, None, List, ℕ, vec_capacity}
use Rattle.domain_turn.specs.Passes.{known}
use Rattle.domain_turn.specs.Plays.{MayPut, with_put}
use Rattle.domain_turn.specs.Telling.{Telling}
use Rattle.domain_turn.specs.Views.{is_actor}
use Rattle.fileset_values.specs.declared.entry.Entry.{Entry}
use Rattle.domain_turn.specs.declared.ledger.Ledger.{Ledger}
use Rattle.domain_turn.proofs.Counting.{drop_front, is_client, more_of}
use Rattle.domain_turn.proofs.working.add_one.Goals as goal

pub put_back-requires-clause-put : goal.put_back-requires-clause-put
put_back-requires-clause-put g c =
    let told : Telling (Ledger g.row.N.Denot g.N.Named) = record {
      history = λ ledger. ledger.entries.items;
      lasting = λ ledger. ledger.kept;
      rests = λ ledger. Unit {0};
      room = λ ledger. vec_capacity ledger.entries - length ledger.entries.items;
      begun = λ ledger. ledger.job;
    } in
    let taken = c.take-ledger.result in
    let value = c.keep_all.new.self in
    let same = ap (λ v. v.items) c.keep_all.ensures.same in
    let more = more_of c.args.client taken.entries.items c.add-added.new.self.entries.items c.add-added.result c.add-added.ensures.added c.add-added.ensures.none in
    let is = same ∙ more.is in
    let added_is = ap (drop (length taken.entries.items)) is ∙ drop_front taken.entries.items more.more in
    let size = ap length added_is in
    let short = more.short in
    let long = ap length is ∙ length-append taken.entries.items more.more in
    let ready = c.requires.left in
    let share = ap (λ s. s.left) c.take-ledger.ensures.known in
    let number = ap (λ s. s.number) c.take-ledger.ensures.known ∙ c.requires.number in
    let lasts = taken.lasts in
    let kept = c.keep_all.ensures.kept in
    let cap = c.add-added.ensures.capacity in
    let cap_same = ap (λ v. v.cap) c.keep_all.ensures.same in
    subst (λ o. IsSomeAnd o (λ t. MayPut told (known c.take-ledger.new.pass) t value)) (sym c.take-ledger.ensures.taken) record {
      rests = tt;
      grown = is ∙ ap (λ back. taken.entries.items ++ back) (sym added_is);
      left = omega (arith, size, short, ready, share);
      actor = λ entry there.
          ap (λ (n : ℕ). is_actor n entry.actor) number
          ∙ ap (is_actor c.args.client) (more.by entry (subst (λ (entries : List Entry). Contains entries entry) added_is there))
          ∙ is_client c.args.client c.requires.low;
      lasting = omega (arith, lasts, kept, long);
      room = omega (arith, long, size, cap, cap_same);
      begun = λ other. c.keep_all.ensures.job ∙ c.add-added.ensures.job;
    }

pub returns-clause-ready : goal.returns-clause-ready
returns-clause-ready g c =
    let told : Telling (Ledger g.row.N.Denot g.N.Named) = record {
      history = λ ledger. ledger.entries.items;
      lasting = λ ledger. ledger.kept;
      rests = λ ledger. Unit {0};
      room = λ ledger. vec_capacity ledger.entries - length ledger.entries.items;
      begun = λ ledger. ledger.job;
    } in
    let taken = c.take-ledger.result in
    let value = c.keep_all.new.self in
    let same = ap (λ v. v.items) c.keep_all.ensures.same in
    let more = more_of c.args.client taken.entries.items c.add-added.new.self.entries.items c.add-added.result c.add-added.ensures.added c.add-added.ensures.none in
    let is = same ∙ more.is in
    let added_is = ap (drop (length taken.entries.items)) is ∙ drop_front taken.entries.items more.more in
    let known_put : known c.put_back.new.pass ≡ with_put told (known c.take-ledger.new.pass) taken value
    = subst (λ o. IsSomeAnd o (λ t. known c.put_back.new.pass ≡ with_put told (known c.take-ledger.new.pass) t value)) c.take-ledger.ensures.taken c.put_back.ensures.known in
    let noted = c.note_durable.ensures.known in
    let size = ap length added_is in
    let short = more.short in
    let ready = c.requires.left in
    let before = ap (λ s. s.left) c.take-ledger.ensures.known in
    let after = ap (λ s. s.left) noted ∙ ap (λ s. s.left) known_put in
    record {
      here = c.note_durable.ensures.here;
      free = c.note_durable.ensures.same ∙ c.put_back.ensures.free;
      number = ap (λ s. s.number) noted ∙ ap (λ s. s.number) known_put ∙ ap (λ s. s.number) c.take-ledger.ensures.known ∙ c.requires.number;
      low = c.requires.low;
      left = omega (arith, after, before, size, short, ready);
      goes_on = ap (λ s. s.ended) noted ∙ ap (λ s. s.ended) known_put ∙ ap (λ s. s.ended) c.take-ledger.ensures.known ∙ c.requires.goes_on;
    }

pub note_durable-requires-clause-lasting : goal.note_durable-requires-clause-lasting
note_durable-requires-clause-lasting g c =
    let told : Telling (Ledger g.row.N.Denot g.N.Named) = record {
      history = λ ledger. ledger.entries.items;
      lasting = λ ledger. ledger.kept;
      rests = λ ledger. Unit {0};
      room = λ ledger. vec_capacity ledger.entries - length ledger.entries.items;
      begun = λ ledger. ledger.job;
    } in
    let known_put : known c.put_back.new.pass ≡ with_put told (known c.take-ledger.new.pass) c.take-ledger.result c.keep_all.new.self
    = subst (λ o. IsSomeAnd o (λ t. known c.put_back.new.pass ≡ with_put told (known c.take-ledger.new.pass) t c.keep_all.new.self)) c.take-ledger.ensures.taken c.put_back.ensures.known in
    let lasting = ap (λ s. s.lasting) known_put in
    let is = c.durable-durable.ensures in
    omega (arith, lasting, is)

pub returns-clause-grown : goal.returns-clause-grown
returns-clause-grown g c =
    let told : Telling (Ledger g.row.N.Denot g.N.Named) = record {
      history = λ ledger. ledger.entries.items;
      lasting = λ ledger. ledger.kept;
      rests = λ ledger. Unit {0};
      room = λ ledger. vec_capacity ledger.entries - length ledger.entries.items;
      begun = λ ledger. ledger.job;
    } in
    let taken = c.take-ledger.result in
    let value = c.keep_all.new.self in
    let same = ap (λ v. v.items) c.keep_all.ensures.same in
    let more = more_of c.args.client taken.entries.items c.add-added.new.self.entries.items c.add-added.result c.add-added.ensures.added c.add-added.ensures.none in
    let is = same ∙ more.is in
    let added_is = ap (drop (length taken.entries.items)) is ∙ drop_front taken.entries.items more.more in
    let known_put : known c.put_back.new.pass ≡ with_put told (known c.take-ledger.new.pass) taken value
    = subst (λ o. IsSomeAnd o (λ t. known c.put_back.new.pass ≡ with_put told (known c.take-ledger.new.pass) t value)) c.take-ledger.ensures.taken c.put_back.ensures.known in
    let noted = c.note_durable.ensures.known in
    let mine = ap (λ s. s.mine) noted ∙ ap (λ s. s.mine) known_put in
    let before = ap (λ s. s.mine) c.take-ledger.ensures.known in
    let long = ap length mine ∙ length-append (known c.take-ledger.new.pass).mine _ in
    let same_long = ap length before in
    let size = ap length added_is in
    let count = more.count in
    omega (arith, long, same_long, size, count)
