-- The answers of a legal history, as far as they speak of filesets.
use Rattle.std.proofs.Common.{◌≡◌, ℕ, Bool, true, false, List, [], ◌∷◌, ◌++◌, Option, Some, None, refl, sym, ap, subst, ◌∙◌, inl, inr}
use Rattle.std.proofs.lemmas.List.{map-append}
use Rattle.std.specs.Option.{option_map_or}
use Rattle.std.specs.FinMap as map
use Rattle.std.specs.List.{All}
use Rattle.fileset_model.specs.fileset_values.Orders.{Name}
use Rattle.fileset_model.specs.Filesets.{FilesetMap}
use Rattle.fileset_model.specs.fileset_values.declared.command.Command.{Command}
use Rattle.fileset_model.specs.fileset_values.declared.command.Command.TheVariants as command
use Rattle.fileset_model.specs.fileset_values.declared.entry.Entry.{Entry}
use Rattle.fileset_model.specs.declared.fileset.FilesetSlot.{FilesetSlot}
use Rattle.fileset_model.specs.declared.fileset.Role.{Role}
use Rattle.fileset_model.specs.declared.fileset.Role.TheVariants.{Original, CloneOf}
use Rattle.fileset_model.specs.fileset_values.declared.reply.Reply.{Reply}
use Rattle.legal_histories.specs.Legal.{Chain, Legal}
use Rattle.legal_histories.specs.Legal.Chain.{stays, begin, silent, entry}
use Rattle.fileset_model.specs.LooksLike.{LooksLike}
use Rattle.legal_histories.specs.Marks.{GainsMarks, RoleGains, SlotGains}
use Rattle.legal_histories.specs.PlainRun.{IsInside, MarkedRun, is_of_filesets}
use Rattle.legal_histories.specs.PlainRun.MarkedRun.{none as no_answer, entry as answers, loses}
use Rattle.legal_histories.specs.Point.{Answered, Point, history_of, start_point}
use Rattle.legal_histories.specs.State.{State}
use Rattle.legal_histories.specs.Step.{Silent, Step}
use Rattle.legal_histories.specs.Step.Silent.{marks, closes, log_leaves, upgrades}
use Rattle.legal_histories.specs.Step.Step.{applied, on_volumes, no_space, read_fault, panicked, cancelled, out_of_memory}
use Rattle.legal_histories.specs.VolumeReply.{VolumeReply}
use Rattle.legal_histories.specs.Volumes.{with_open}
use Rattle.legal_histories.proofs.PlainLemmas.{All-front, All-last}

-- marks that are allowed for some cause are marks
role_any : (Allowed : Name → FilesetSlot → ℕ → Type 0) (slot : FilesetSlot) (role role' : Role)
    → RoleGains Allowed slot role role' → RoleGains (λ original clone number. Unit {0}) slot role role'
role_any Allowed slot Original role' gains = gains
role_any Allowed slot (CloneOf original out) Original gains = gains
role_any Allowed slot (CloneOf original out) (CloneOf original' out') gains =
    (gains.0, gains.1, λ number is not. ((gains.2 number is not).0, tt))

slot_any : (Allowed : Name → FilesetSlot → ℕ → Type 0) (found found' : Option FilesetSlot)
    → SlotGains Allowed found found' → SlotGains (λ original clone number. Unit {0}) found found'
slot_any Allowed None found' gains = gains
slot_any Allowed (Some slot) None gains = gains
slot_any Allowed (Some slot) (Some slot') gains = (gains.0, role_any Allowed slot slot.role slot'.role gains.1)

any_marks : (Allowed : Name → FilesetSlot → ℕ → Type 0) (old new : FilesetMap) → GainsMarks Allowed old new → GainsMarks (λ original clone number. Unit {0}) old new
any_marks Allowed old new gains name = slot_any Allowed (map.get old name) (map.get new name) (gains name)

-- a member's change leaves the filesets
pub opened_filesets : (is_open : Bool) (vol : ℕ) (s : State) → (with_open is_open vol s).filesets ≡ s.filesets
opened_filesets is_open vol s = elim (map.get s.members vol) as (λ o. (option_map_or (λ member. record s { members = map.insert s.members vol (record member { is_open = is_open }) }) o s).filesets ≡ s.filesets) [
  | None ↦ refl
  | Some member ↦ refl
]

-- a command on filesets is none on volumes
no_volumes : (point : Point) (c : Command) (reply : Reply) (new : State) → is_of_filesets c ≡ true → VolumeReply point c reply new → ⊥
no_volumes point (command.Showfdmn) reply new of answer = absurd (cc)
no_volumes point (command.Showfile place) reply new of answer = absurd (cc)
no_volumes point (command.Stripe width place) reply new of answer = absurd (cc)
no_volumes point (command.Migrate place first count from to) reply new of answer = absurd (cc)
no_volumes point command.Balance reply new of answer = absurd (cc)
no_volumes point (command.Addvol vol) reply new of answer = absurd (cc)
no_volumes point (command.Rmvol vol) reply new of answer = absurd (cc)
no_volumes point (command.ChvolA vol) reply new of answer = absurd (cc)
no_volumes point (command.Switchlog vol) reply new of answer = absurd (cc)
no_volumes point command.Upgrade reply new of answer = absurd (cc)
no_volumes point (command.Defragment place) reply new of answer = absurd (cc)
no_volumes point c reply new of answer = answer

module _ (first : FilesetMap) where
  between : (history : List Entry) (point : Point) (new : State) → MarkedRun first history point.state.filesets → Silent point new → MarkedRun first history new.filesets
  between history point new run (marks gains tight rest) = loses run new.filesets (any_marks _ point.state.filesets new.filesets gains)
  between history point new run (closes vol removing rest) = subst (MarkedRun first history) (sym (ap (λ (s : State). s.filesets) rest ∙ opened_filesets false vol point.state)) run
  between history point new run (log_leaves vol other removing on differ is_open rest) = subst (MarkedRun first history) (sym (ap (λ (s : State). s.filesets) rest)) run
  between history point new run (upgrades runs rest) = subst (MarkedRun first history) (sym (ap (λ (s : State). s.filesets) rest)) run

  step : (history : List Entry) (point : Point) (e : Entry) (new : State) → MarkedRun first history point.state.filesets → is_of_filesets e.command ≡ true → IsInside e.reply
      → Step point e new → MarkedRun first (history ++ e ∷ []) new.filesets
  step history point e new run of inside (applied mid means gains tight rest) =
      loses (answers run e mid.filesets (inl means.0)) new.filesets (any_marks _ mid.filesets new.filesets gains)
  step history point e new run of inside (on_volumes answer) = absurd (no_volumes point e.command e.reply new of answer)
  step history point e new run of inside (no_space free is few takes none tight same) = absurd (subst IsInside is inside)
  step history point e new run of inside (read_fault volume is same) = absurd (subst IsInside is inside)
  step history point e new run of inside (panicked volume is same) = absurd (subst IsInside is inside)
  step history point e new run of inside (cancelled may asked begun is same) = absurd (subst IsInside is inside)
  step history point e new run of inside (out_of_memory is same) = answers run e new.filesets (inr (is, ap (λ (s : State). s.filesets) same))

  -- what was answered at a point
  chained : (start : State) (point : Point) → start.filesets ≡ first → Chain (start_point start) point
      → All (λ e. is_of_filesets e.command ≡ true) (history_of point.past) → All (λ e. IsInside e.reply) (history_of point.past)
      → MarkedRun first (history_of point.past) point.state.filesets
  chained start _ at stays of inside = subst (λ all. MarkedRun first [] all) (sym at) no_answer
  chained start _ at (begin {point} chain idle c movers) of inside = chained start point at chain of inside
  chained start _ at (silent {point} chain new may) of inside = between (history_of point.past) point new (chained start point at chain of inside) may
  chained start _ at (entry {point} chain e new follows is) of inside =
      let grown : history_of (point.past ++ record { entry = e; before = point.state } ∷ []) ≡ history_of point.past ++ e ∷ [] = map-append (λ (a : Answered). a.entry) point.past _ in
      let of' = subst (All (λ (e : Entry). is_of_filesets e.command ≡ true)) grown of in
      let inside' = subst (All (λ (e : Entry). IsInside e.reply)) grown inside in
      subst (λ h. MarkedRun first h new.filesets) (sym grown)
      (step (history_of point.past) point e new
      (chained start point at chain (All-front (λ (e : Entry). is_of_filesets e.command ≡ true) (history_of point.past) e of') (All-front (λ (e : Entry). IsInside e.reply) (history_of point.past) e inside'))
      (All-last (λ (e : Entry). is_of_filesets e.command ≡ true) (history_of point.past) e of')
      (All-last (λ (e : Entry). IsInside e.reply) (history_of point.past) e inside') is)

pub plain : (start end : State) (history : List Entry) (job : Option Command) → Legal start history job end
    → All (λ e. is_of_filesets e.command ≡ true) history → All (λ e. IsInside e.reply) history
    → (all : FilesetMap) × MarkedRun start.filesets history all × LooksLike all end.filesets
plain start end history job legal of inside = (
  legal.point.state.filesets,
  subst (λ h. MarkedRun start.filesets h legal.point.state.filesets) legal.answered
      (chained start.filesets start legal.point refl legal.chain
      (subst (All (λ (e : Entry). is_of_filesets e.command ≡ true)) (sym legal.answered) of) (subst (All (λ (e : Entry). IsInside e.reply)) (sym legal.answered) inside)),
  legal.ends.filesets,
)
