-- A domain stays valid along a chain.
use Rattle.std.proofs.Common.{◌≡◌, ◌≢◌, ℕ, Bool, true, false, min, not, ◌==◌, is_some, List, [], IsTrue, MatchOption, Option, Some, None, refl, sym, ap, subst, ◌∙◌, inl, inr, true≢false}
use Rattle.std.specs.Option.{option_map_or}
use Rattle.std.specs.Cmp.{nat_cmp_total}
use Rattle.std.specs.FinMap as map
use Rattle.std.specs.FinSet as set
use Rattle.std.proofs.lemmas.Bool.{eq-eqb, eqb-true}
use Rattle.fileset_model.specs.domain_base.Version.{most_pages}
use Rattle.fileset_model.specs.fileset_values.declared.command.Actor.{Actor}
use Rattle.fileset_model.specs.fileset_values.declared.command.Actor.TheVariants.{Client, Mover}
use Rattle.fileset_model.specs.fileset_values.declared.command.Command.{Command}
use Rattle.fileset_model.specs.fileset_values.declared.command.Place.{Place}
use Rattle.fileset_model.specs.fileset_values.declared.command.Command.TheVariants as command
use Rattle.fileset_model.specs.fileset_values.declared.entry.Entry.{Entry}
use Rattle.fileset_model.specs.fileset_values.declared.reply.Refusal.{Refusal}
use Rattle.fileset_model.specs.fileset_values.declared.reply.Refusal.TheVariants.{NoVolume}
use Rattle.fileset_model.specs.fileset_values.declared.reply.Reply.{Reply}
use Rattle.fileset_model.specs.fileset_values.declared.reply.Reply.TheVariants.{Refused}
use Rattle.fileset_model.specs.Paths.{refuse_if}
use Rattle.fileset_model.proofs.OfFilesetValues.MapLemmas.{get-remove_other, got-insert}
use Rattle.legal_histories.specs.Valid.{AreValid}
use Rattle.legal_histories.proofs.ValidAnswerLemmas.{answered-valid}
use Rattle.legal_histories.proofs.ValidLemmas.{passed, passed_test}
use Rattle.legal_histories.specs.Legal.{Chain, IsForActor, Legal, MayFollow}
use Rattle.legal_histories.specs.Legal.Chain.{stays, begin, silent, entry}
use Rattle.legal_histories.specs.Point.{Job, Point, job_after, running_job, start_point}
use Rattle.legal_histories.specs.State.{Member, MemberMap, State}
use Rattle.legal_histories.specs.Step.{MayBeMarked, Silent, Step, after_cancel}
use Rattle.legal_histories.specs.Step.Silent.{marks, closes, log_leaves, upgrades}
use Rattle.legal_histories.specs.Step.Step.{applied, on_volumes, no_space, read_fault, panicked, cancelled, out_of_memory}
use Rattle.legal_histories.specs.VolumeReply.{Carries, VolumeReply, is_movers, judged_in}
use Rattle.legal_histories.specs.Volumes.{Removes, is_open_member, rack_pages, volume_refusal, with_member, with_open, with_stripe}
use Rattle.legal_histories.specs.HistoryValid.{IsValid}
use Rattle.legal_histories.proofs.MarkedLemmas.{opened_filesets}
use Rattle.legal_histories.proofs.UntouchedLemmas.{cancelled_filesets, volumes_keep}
use Rattle.legal_histories.proofs.ValidHistoryLemmas.{alike-valid, marked-valid}

-- ---- members

-- two member lists have the same volumes
abbrev SameVolumes : State → State → Type 0
SameVolumes s new = (vol : ℕ) → map.contains_key new.members vol ≡ map.contains_key s.members vol

open_is_member : (members : MemberMap) (vol : ℕ) → IsTrue (is_open_member members vol) → map.contains_key members vol ≡ true
open_is_member members vol is_open = elim (map.get members vol) as (λ o. IsTrue (option_map_or (λ member. member.is_open) o false) → is_some o ≡ true) [
  | None ↦ λ no. no
  | Some member ↦ λ yes. refl
] is_open

-- opening or closing a member leaves the volumes
opened_volumes : (is_open : Bool) (vol : ℕ) (s : State) → SameVolumes s (with_open is_open vol s)
opened_volumes is_open vol s v = elim (map.get s.members vol) as (λ o. map.get s.members vol ≡ o
    → map.contains_key (option_map_or (λ member. record s { members = map.insert s.members vol (record member { is_open = is_open }) }) o s).members v ≡ map.contains_key s.members v) [
      | None ↦ λ is. refl
      | Some member ↦ λ is. elim (got-insert nat_cmp_total map.nat_cmp-IsAntisymmetric s.members vol (record member { is_open = is_open }) v _ refl) as (λ _.
          map.contains_key (map.insert s.members vol (record member { is_open = is_open })) v ≡ map.contains_key s.members v) [
            | inl here ↦ ap is_some here.1 ∙ sym (ap is_some (ap (map.get s.members) here.0 ∙ is))
            | inr other ↦ sym (ap is_some other.1)
          ]
    ] refl

opened_log : (is_open : Bool) (vol : ℕ) (s : State) → (with_open is_open vol s).log_volume ≡ s.log_volume
opened_log is_open vol s = elim (map.get s.members vol) as (λ o. (option_map_or (λ member. record s { members = map.insert s.members vol (record member { is_open = is_open }) }) o s).log_volume ≡ s.log_volume) [
  | None ↦ refl
  | Some member ↦ refl
]

-- ---- a point at which a domain is valid, and the volumes are those at which its job began

pub record IsValidPoint (point : Point) : Type 0 where
  pub valid : IsValid point.state
  pub volumes : (job : Job) → point.job ≡ Some job → SameVolumes job.began point.state

-- the log of a state is on a member
abbrev HasLog : State → Type 0
HasLog s = map.contains_key s.members s.log_volume ≡ true

opened-log : (is_open : Bool) (vol : ℕ) (s : State) → HasLog s → HasLog (with_open is_open vol s)
opened-log is_open vol s log = ap (map.contains_key (with_open is_open vol s).members) (opened_log is_open vol s) ∙ opened_volumes is_open vol s s.log_volume ∙ log

silent-valid : (point : Point) (new : State) → IsValidPoint point → Silent point new → IsValid new × SameVolumes point.state new
silent-valid point new v (marks gains tight rest) = (
  record {
    filesets = marked-valid (MayBeMarked point) point.state.filesets new.filesets gains v.valid.filesets;
    log_on_member = ap (λ (s : State). map.contains_key s.members s.log_volume) rest ∙ v.valid.log_on_member;
  },
  λ vol. ap (λ (s : State). map.contains_key s.members vol) rest,
)
silent-valid point new v (closes vol removing rest) = (
  record {
    filesets = subst AreValid (sym (ap (λ (s : State). s.filesets) rest ∙ opened_filesets false vol point.state)) v.valid.filesets;
    log_on_member = ap (λ (s : State). map.contains_key s.members s.log_volume) rest ∙ opened-log false vol point.state v.valid.log_on_member;
  },
  λ q. ap (λ (s : State). map.contains_key s.members q) rest ∙ opened_volumes false vol point.state q,
)
silent-valid point new v (log_leaves vol other removing on differ is_open rest) = (
  record {
    filesets = subst AreValid (sym (ap (λ (s : State). s.filesets) rest)) v.valid.filesets;
    log_on_member = ap (λ (s : State). map.contains_key s.members s.log_volume) rest ∙ open_is_member point.state.members other is_open;
  },
  λ q. ap (λ (s : State). map.contains_key s.members q) rest,
)
silent-valid point new v (upgrades runs rest) = (
  record {
    filesets = subst AreValid (sym (ap (λ (s : State). s.filesets) rest)) v.valid.filesets;
    log_on_member = ap (λ (s : State). map.contains_key s.members s.log_volume) rest ∙ v.valid.log_on_member;
  },
  λ q. ap (λ (s : State). map.contains_key s.members q) rest,
)

-- ---- the log after a command on volumes

striped_members : (place : Place) (s : State) → ((with_stripe place s).members ≡ s.members) × ((with_stripe place s).log_volume ≡ s.log_volume)
striped_members place s = elim (map.get s.filesets place.fileset) as (λ o. ((option_map_or (λ slot. option_map_or (λ number. record s { striped = set.insert s.striped (place.fileset, number) })
    (map.get slot.tree.paths place.path) s) o s).members ≡ s.members) × ((option_map_or (λ slot. option_map_or (λ number. record s { striped = set.insert s.striped (place.fileset, number) })
    (map.get slot.tree.paths place.path) s) o s).log_volume ≡ s.log_volume)) [
      | None ↦ (refl, refl)
      | Some slot ↦ elim (map.get slot.tree.paths place.path) as (λ o. ((option_map_or (λ number. record s { striped = set.insert s.striped (place.fileset, number) }) o s).members ≡ s.members)
          × ((option_map_or (λ number. record s { striped = set.insert s.striped (place.fileset, number) }) o s).log_volume ≡ s.log_volume)) [
            | None ↦ (refl, refl)
            | Some number ↦ (refl, refl)
          ]
    ]

same_log : (s new : State) → new.members ≡ s.members → new.log_volume ≡ s.log_volume → HasLog s → HasLog new
same_log s new members log has = ap (λ (m : MemberMap). map.contains_key m new.log_volume) members ∙ ap (map.contains_key s.members) log ∙ has

same_state_log : (s new : State) → new ≡ s → HasLog s → HasLog new
same_state_log s new same has = ap (λ (s : State). map.contains_key s.members s.log_volume) same ∙ has

added-log : (vol : ℕ) (s : State) → HasLog s → HasLog (with_member vol s)
added-log vol s has =
    let member : Member = record { pages = min (rack_pages s vol) (most_pages s.version); is_open = true } in
    elim (got-insert nat_cmp_total map.nat_cmp-IsAntisymmetric s.members vol member s.log_volume _ refl) as (λ _. HasLog (with_member vol s)) [
      | inl here ↦ ap is_some here.1
      | inr other ↦ sym (ap is_some other.1) ∙ has
    ]

removed-log : (vol : ℕ) (s new : State) → Removes vol s new → HasLog s → HasLog new
removed-log vol s new removes has = elim (s.log_volume == vol) as (λ b. (s.log_volume == vol) ≡ b → HasLog new) [
  | true ↦ λ same. open_is_member new.members new.log_volume (removes.log_moves (eqb-true s.log_volume vol same))
  | false ↦ λ differ.
      let apart : s.log_volume ≢ vol = λ e. true≢false (sym (eq-eqb s.log_volume vol e) ∙ differ) in
      ap (λ (m : MemberMap). map.contains_key m new.log_volume) removes.members ∙ ap (map.contains_key (map.remove s.members vol)) (removes.log_stays apart)
      ∙ ap is_some (get-remove_other nat_cmp_total map.nat_cmp-IsAntisymmetric s.members vol s.log_volume apart) ∙ has
] refl

-- a volume to which the log may go is a member when the job began, and so it is now
switched-log : (point : Point) (vol : ℕ) → IsValidPoint point → volume_refusal (judged_in point (command.Switchlog vol)) (command.Switchlog vol) ≡ None
    → map.contains_key point.state.members vol ≡ true
switched-log point vol v none =
    elim point.job as (λ o. point.job ≡ o → volume_refusal (option_map_or (λ job. job.began) o point.state) (command.Switchlog vol) ≡ None → map.contains_key point.state.members vol ≡ true) [
      | None ↦ λ idle h. member point.state h
      | Some job ↦ λ runs h. v.volumes job runs vol ∙ member job.began h
    ] refl none
  where
    yes : (b : Bool) → not b ≡ false → IsTrue b
    yes true h = refl
    yes false h = absurd (true≢false h)

    member : (s : State) → volume_refusal s (command.Switchlog vol) ≡ None → map.contains_key s.members vol ≡ true
    member s h =
        let check : Option Refusal = refuse_if (not (is_open_member s.members vol)) NoVolume in
        open_is_member s.members vol (yes (is_open_member s.members vol) (passed_test (not (is_open_member s.members vol)) NoVolume (passed check [] h).0))

carried-log : (point : Point) (c : Command) (reply : Reply) (new : State) → IsValidPoint point → volume_refusal (judged_in point c) c ≡ None → Carries point c reply new → HasLog new
carried-log point command.Showfdmn reply new v none answer = same_state_log point.state new answer.0 v.valid.log_on_member
carried-log point (command.Showfile place) reply new v none answer = same_state_log point.state new answer.0 v.valid.log_on_member
carried-log point (command.Stripe width place) reply new v none answer =
    same_state_log (with_stripe place point.state) new answer.1 (same_log point.state (with_stripe place point.state) (striped_members place point.state).0 (striped_members place point.state).1 v.valid.log_on_member)
carried-log point (command.Migrate place first count from to) reply new v none answer = same_state_log point.state new answer.0 v.valid.log_on_member
carried-log point command.Balance reply new v none answer = same_state_log point.state new answer.0 v.valid.log_on_member
carried-log point (command.Addvol vol) reply new v none answer = same_state_log (with_member vol point.state) new answer.1 (added-log vol point.state v.valid.log_on_member)
carried-log point (command.ChvolA vol) reply new v none answer = same_state_log (with_open true vol point.state) new answer.1 (opened-log true vol point.state v.valid.log_on_member)
carried-log point (command.Switchlog vol) reply new v none (inl done) = ap (λ (s : State). map.contains_key s.members s.log_volume) done.1 ∙ switched-log point vol v none
carried-log point (command.Switchlog vol) reply new v none (inr full) = same_state_log point.state new full.2 v.valid.log_on_member
carried-log point (command.Rmvol vol) reply new v none (inl done) = removed-log vol point.state new done.1 v.valid.log_on_member
carried-log point (command.Rmvol vol) reply new v none (inr full) = same_state_log (with_open false vol point.state) new full.1 (opened-log false vol point.state v.valid.log_on_member)
carried-log point command.Upgrade reply new v none answer = ap (λ (s : State). map.contains_key s.members s.log_volume) answer.1 ∙ v.valid.log_on_member
carried-log point (command.Defragment place) reply new v none answer = same_state_log point.state new answer.0 v.valid.log_on_member
carried-log point c reply new v none answer = absurd answer

volume-log : (point : Point) (c : Command) (reply : Reply) (new : State) → IsValidPoint point → VolumeReply point c reply new → HasLog new
volume-log point c reply new v answer =
    elim (volume_refusal (judged_in point c) c) as (λ o. volume_refusal (judged_in point c) c ≡ o
    → MatchOption o (Carries point c reply new) (λ refusal. (reply ≡ Refused refusal) × (new ≡ point.state)) → HasLog new) [
      | None ↦ λ none carries. carried-log point c reply new v none carries
      | Some refusal ↦ λ some refused. same_state_log point.state new refused.1 v.valid.log_on_member
    ] refl answer

cancelled-log : (c : Command) (s : State) → HasLog s → HasLog (after_cancel c s)
cancelled-log (command.Rmvol vol) s has = opened-log false vol s has
cancelled-log c s has = has

-- ---- steps

step-valid : (point : Point) (e : Entry) (new : State) → IsValidPoint point → Step point e new → IsValid new
step-valid point e new v (applied mid means gains tight rest) = record {
  filesets = marked-valid _ mid.filesets new.filesets gains (answered-valid point.state.filesets mid.filesets e.command e.reply v.valid.filesets means.0);
  log_on_member = ap (λ (s : State). map.contains_key s.members s.log_volume) rest ∙ ap (λ (s : State). map.contains_key s.members s.log_volume) means.1 ∙ v.valid.log_on_member;
}
step-valid point e new v (on_volumes answer) = record {
  filesets = subst AreValid (sym (volumes_keep point e.command e.reply new answer)) v.valid.filesets;
  log_on_member = volume-log point e.command e.reply new v answer;
}
step-valid point e new v (no_space free is few takes none tight same) = subst IsValid (sym same) v.valid
step-valid point e new v (read_fault volume is same) = subst IsValid (sym same) v.valid
step-valid point e new v (panicked volume is same) = subst IsValid (sym same) v.valid
step-valid point e new v (cancelled may asked begun is same) = record {
  filesets = subst AreValid (sym (ap (λ (s : State). s.filesets) same ∙ cancelled_filesets e.command point.state)) v.valid.filesets;
  log_on_member = same_state_log (after_cancel e.command point.state) new same (cancelled-log e.command point.state v.valid.log_on_member);
}
step-valid point e new v (out_of_memory is same) = subst IsValid (sym same) v.valid

-- a client's command leaves the volumes
carried-volumes : (point : Point) (c : Command) (reply : Reply) (new : State) → is_movers c ≡ false → Carries point c reply new → SameVolumes point.state new
carried-volumes point command.Showfdmn reply new client answer vol = ap (λ (s : State). map.contains_key s.members vol) answer.0
carried-volumes point (command.Showfile place) reply new client answer vol = ap (λ (s : State). map.contains_key s.members vol) answer.0
carried-volumes point (command.Stripe width place) reply new client answer vol =
    ap (λ (s : State). map.contains_key s.members vol) answer.1 ∙ ap (λ (m : MemberMap). map.contains_key m vol) (striped_members place point.state).0
carried-volumes point (command.Migrate place first count from to) reply new client answer vol = absurd (true≢false client)
carried-volumes point command.Balance reply new client answer vol = absurd (true≢false client)
carried-volumes point (command.Addvol v) reply new client answer vol = absurd (true≢false client)
carried-volumes point (command.ChvolA v) reply new client answer vol = absurd (true≢false client)
carried-volumes point (command.Switchlog v) reply new client answer vol = absurd (true≢false client)
carried-volumes point (command.Rmvol v) reply new client answer vol = absurd (true≢false client)
carried-volumes point command.Upgrade reply new client answer vol = absurd (true≢false client)
carried-volumes point (command.Defragment place) reply new client answer vol = absurd (true≢false client)
carried-volumes point c reply new client answer vol = absurd answer

client-volumes : (point : Point) (e : Entry) (new : State) → is_movers e.command ≡ false → Step point e new → SameVolumes point.state new
client-volumes point e new client (applied mid means gains tight rest) vol = ap (λ (s : State). map.contains_key s.members vol) rest ∙ ap (λ (s : State). map.contains_key s.members vol) means.1
client-volumes point e new client (on_volumes answer) vol =
    elim (volume_refusal (judged_in point e.command) e.command) as (λ o. MatchOption o (Carries point e.command e.reply new) (λ refusal. (e.reply ≡ Refused refusal) × (new ≡ point.state))
    → map.contains_key new.members vol ≡ map.contains_key point.state.members vol) [
      | None ↦ λ carries. carried-volumes point e.command e.reply new client carries vol
      | Some refusal ↦ λ refused. ap (λ (s : State). map.contains_key s.members vol) refused.1
    ] answer
client-volumes point e new client (no_space free is few takes none tight same) vol = ap (λ (s : State). map.contains_key s.members vol) same
client-volumes point e new client (read_fault volume is same) vol = ap (λ (s : State). map.contains_key s.members vol) same
client-volumes point e new client (panicked volume is same) vol = ap (λ (s : State). map.contains_key s.members vol) same
client-volumes point e new client (cancelled may asked begun is same) vol = ap (λ (s : State). map.contains_key s.members vol) same ∙ ap (λ (s : State). map.contains_key s.members vol) (no_removal e.command client)
  where
    no_removal : (c : Command) → is_movers c ≡ false → after_cancel c point.state ≡ point.state
    no_removal (command.Rmvol vol) client = absurd (true≢false client)
    no_removal c client = refl
client-volumes point e new client (out_of_memory is same) vol = ap (λ (s : State). map.contains_key s.members vol) same

entry-volumes : (point : Point) (e : Entry) (new : State) → IsValidPoint point → MayFollow point e → Step point e new → (actor : Actor) → e.actor ≡ actor
    → (job : Job) → job_after actor point.job ≡ Some job → SameVolumes job.began new
entry-volumes point e new v follows step (Client number) is job runs vol =
    client-volumes point e new (subst (λ a. IsForActor a e.command (running_job point)) is follows.actor) step vol ∙ v.volumes job runs vol
entry-volumes point e new v follows step Mover is job runs vol = absurd (cc)

pub chain-valid : (start : State) (point : Point) → IsValid start → Chain (start_point start) point → IsValidPoint point
chain-valid start _ v stays = record { valid = v; volumes = λ job is. absurd (cc) }
chain-valid start _ v (begin {point} chain idle c movers) =
    let before = chain-valid start point v chain in
    record { valid = before.valid; volumes = λ job is vol. ap (λ (j : Option Job). map.contains_key (option_map_or (λ job. job.began) j point.state).members vol) is }
chain-valid start _ v (silent {point} chain new may) =
    let before = chain-valid start point v chain in
    let after = silent-valid point new before may in
    record { valid = after.0; volumes = λ job is vol. after.1 vol ∙ before.volumes job is vol }
chain-valid start _ v (entry {point} chain e new follows step) =
    let before = chain-valid start point v chain in
    record { valid = step-valid point e new before step; volumes = entry-volumes point e new before follows step e.actor refl }

pub legal-valid : (start end : State) (history : List Entry) (job : Option Command) → IsValid start → Legal start history job end → IsValid end
legal-valid start end history job v legal =
    let point = chain-valid start legal.point v legal.chain in
    record {
      filesets = alike-valid legal.point.state.filesets end.filesets legal.ends.filesets point.valid.filesets;
      log_on_member = ap (λ (s : State). map.contains_key s.members s.log_volume) legal.ends.rest ∙ point.valid.log_on_member;
    }
