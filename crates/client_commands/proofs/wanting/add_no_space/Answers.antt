use Rattle.std.proofs.Common.{◌≡◌, ◌∙◌, ◌++◌, ◌∷◌, ◌<◌, [], ℕ, refl, sym, ap, subst}
use Rattle.file_commands.specs.fileset_values.declared.command.Actor.TheVariants.{Client}
use Rattle.file_commands.specs.fileset_values.declared.entry.Entry.{Entry}
use Rattle.file_commands.specs.fileset_values.declared.reply.Refusal.TheVariants.{NoSpace}
use Rattle.file_commands.specs.fileset_values.declared.reply.Reply.{Reply}
use Rattle.file_commands.specs.fileset_values.declared.reply.Reply.TheVariants.{Refused}
use Rattle.file_commands.specs.legal_histories.Room.{need}
use Rattle.file_commands.specs.domain_memory.Memory.{StandsFor}
use Rattle.file_commands.specs.domain_memory.declared.memory.DomainMemory.{DomainMemory}
use Rattle.file_commands.specs.domain_memory.Going.{free_in}
use Rattle.file_commands.specs.domain_state.Short.{IsShort, MayLackPages}
use Rattle.file_commands.proofs.OfDomainState.Tightness.{lacks}
use Rattle.client_commands.proofs.Wanted.{goes_unchanged, no_movers, taking}
use Rattle.client_commands.proofs.wanting.add_no_space.Goals as goal

pub commit_unchanged-requires-clause-step : goal.commit_unchanged-requires-clause-step
commit_unchanged-requires-clause-step g c = λ all stands.
    let o = g.O.Opening in
    let it = c.args.domain in
    let want = c.args.want in
    let e : Entry = record { actor = Client c.args.client; command = c.args.command; reply = Refused (NoSpace want.free want.need); stamp = c.calls-stamp.result } in
    let kind = taking c.args.command c.requires.may in
    goes_unchanged o.pages o.frame o.sizes it.history.entries.items it.history.job e all
    (record { stamp = c.calls-stamp.ensures.stamps c.requires.first; calm = it.history.calm; client = c.args.client; actor = refl; command = no_movers c.args.command kind })
    want.free (ap (λ n. Refused (NoSpace want.free n)) c.requires.need) (subst (λ n. want.free < n) c.requires.need c.requires.few) (c.requires.takes all stands) (c.requires.allowed all stands) kind
    (subst (λ n. MayLackPages o.pages o.frame o.sizes it.history.entries.items it.history.job all n) c.requires.need
    (lacks o.pages o.frame o.sizes it.memory it.history.entries.items it.history.job c.requires.settled c.requires.waits it.stands all want.need (subst (λ n. n < want.need) c.requires.free c.requires.few)))

pub commit_unchanged-requires-clause-calm : goal.commit_unchanged-requires-clause-calm
commit_unchanged-requires-clause-calm g c = λ volume. (λ is. absurd (cc), λ is. absurd (cc))

free_told : Reply → ℕ
free_told (Refused (NoSpace free need)) = free
free_told reply = 0

need_told : Reply → ℕ
need_told (Refused (NoSpace free need)) = need
need_told reply = 0

pub commit_unchanged-requires-clause-cause : goal.commit_unchanged-requires-clause-cause
unfolding free_told need_told
commit_unchanged-requires-clause-cause g c = λ free more is.
    let want = c.args.want in
    let same : (want.free ≡ free) × (want.need ≡ more) = (ap free_told is, ap need_told is) in
    subst (λ n. IsShort c.args.domain.memory n more) same.0 (subst (IsShort c.args.domain.memory want.free) same.1 (record {
      settled = c.requires.settled;
      is_free = c.requires.free;
      few = c.requires.few;
      none_waits = c.requires.waits;
      none_goes = c.requires.goes;
    }))

pub returns-clause-adds : goal.returns-clause-adds
returns-clause-adds g c =
    let it = c.args.domain in
    let want = c.args.want in
    let new = c.commit_unchanged.new.self.memory in
    let same : new ≡ it.memory = c.commit_unchanged.ensures.memory in
    let free : want.free ≡ free_in new = c.requires.free ∙ ap free_in (sym same) in
    let entry : ℕ → ℕ → Entry = λ n m. record { actor = Client c.args.client; command = c.args.command; reply = Refused (NoSpace n m); stamp = c.calls-stamp.result } in
    record {
      stamp = c.calls-stamp.result;
      adds = c.commit_unchanged.ensures.history ∙ (λ i. it.history.entries.items ++ entry (free i) (c.requires.need i) ∷ []);
      short = subst (λ (m : DomainMemory). IsShort m (free_in m) (need c.args.command)) (sym same) (record {
        settled = c.requires.settled;
        is_free = refl;
        few = subst (λ n. free_in it.memory < n) c.requires.need (subst (λ n. n < want.need) c.requires.free c.requires.few);
        none_waits = c.requires.waits;
        none_goes = c.requires.goes;
      });
      takes = c.requires.takes;
      allowed = c.requires.allowed;
      stands = λ all stood. subst (λ (m : DomainMemory). StandsFor m all) (sym same) stood;
    }
