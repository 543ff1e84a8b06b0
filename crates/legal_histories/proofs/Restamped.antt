-- The last entry of a legal history with another stamp.
use Rattle.std.proofs.Common.{◌≡◌, ◌∙◌, ◌⊎◌, ◌+◌, ◌*◌, ◌<◌, ◌≤◌, ℕ, List, [], ◌∷◌, ◌++◌, length, Option, refl, sym, ap, subst, arith, length-append}
use Rattle.std.proofs.lemmas.List.{map-append}
use Rattle.std.proofs.lemmas.List.Concat.{flat_map-append}
use Rattle.std.specs.List.{All, Contains}
use Rattle.fileset_model.specs.Filesets.{FilesetMap}
use Rattle.fileset_model.specs.fileset_values.Orders.{Name}
use Rattle.fileset_model.specs.fileset_values.declared.command.Actor.{Actor}
use Rattle.fileset_model.specs.fileset_values.declared.command.Command.{Command}
use Rattle.fileset_model.specs.fileset_values.declared.entry.Entry.{Entry}
use Rattle.fileset_model.specs.declared.fileset.FilesetSlot.{FilesetSlot}
use Rattle.fileset_model.specs.fileset_values.declared.reply.Reply.{Reply}
use Rattle.fileset_model.specs.fileset_values.declared.reply.Reply.TheVariants as reply
use Rattle.legal_histories.specs.Changed.{changed_by_entry}
use Rattle.legal_histories.specs.Legal.{Chain, Legal, MayFollow}
use Rattle.legal_histories.specs.Legal.Chain.{stays, begin, silent, entry}
use Rattle.legal_histories.specs.Marks.{Differs, GainsMarks}
use Rattle.legal_histories.specs.Point.{Answered, Point, changed_in, history_of, point_after, start_point}
use Rattle.legal_histories.specs.Room.{open_pages}
use Rattle.legal_histories.specs.State.{Numbered, State}
use Rattle.legal_histories.specs.Step.{Silent, Step}
use Rattle.legal_histories.specs.Step.Silent.{marks, closes, log_leaves, upgrades}
use Rattle.legal_histories.specs.Step.Step.{applied, on_volumes, no_space, read_fault, panicked, cancelled, out_of_memory}
use Rattle.legal_histories.specs.GoingOn.{stamped}
use Rattle.legal_histories.proofs.PlaceLemmas.{same_end}

-- ---- what an entry changes does not hang on its stamp

of_parts : (all : FilesetMap) (actor : Actor) (command : Command) (r : Reply) (stamp other : ℕ)
    → changed_by_entry all (record { actor = actor; command = command; reply = r; stamp = other }) ≡ changed_by_entry all (record { actor = actor; command = command; reply = r; stamp = stamp })
of_parts all actor command reply.Done stamp other = refl
of_parts all actor command (reply.Count n) stamp other = refl
of_parts all actor command (reply.Read bytes) stamp other = refl
of_parts all actor command (reply.Names names) stamp other = refl
of_parts all actor command (reply.FileStat uid gid size pages logged) stamp other = refl
of_parts all actor command (reply.DirStat uid gid rows) stamp other = refl
of_parts all actor command (reply.Filesets filesets) stamp other = refl
of_parts all actor command (reply.Quota files files_limit blocks blocks_limit) stamp other = refl
of_parts all actor command (reply.Volumes volumes) stamp other = refl
of_parts all actor command (reply.Extents extents) stamp other = refl
of_parts all actor command (reply.Refused refusal) stamp other = refl

pub changed_same : (all : FilesetMap) (e : Entry) (stamp : ℕ) → changed_by_entry all (stamped stamp e) ≡ changed_by_entry all e
changed_same all e stamp = of_parts all e.actor e.command e.reply e.stamp stamp

-- ---- steps

-- what happens between entries, if as many were answered before that changed the same
silent_same : (point : Point) (past : List Answered) → changed_in past ≡ changed_in point.past → length past ≡ length point.past → (new : State) → Silent point new → Silent (record point { past = past }) new
silent_same point past changed many new (marks gains tight rest) =
    marks
    (subst
    (λ (l : List Numbered). GainsMarks (λ (original : Name) (clone : FilesetSlot) (number : ℕ). Differs point.state.filesets original clone number ⊎ Contains l (original, number)) point.state.filesets new.filesets)
    (sym changed) gains)
    (subst (λ n. open_pages new < 16 * point.state.old_pages + 24 * n + point.most + 16) (sym many) tight)
    rest
silent_same point past changed many new (closes vol removing rest) = closes vol (record { job = removing.job; member = removing.member; others = removing.others }) rest
silent_same point past changed many new (log_leaves vol other removing on differ is_open rest) =
    log_leaves vol other (record { job = removing.job; member = removing.member; others = removing.others }) on differ is_open rest
silent_same point past changed many new (upgrades runs rest) = upgrades runs rest

step_same : (point : Point) (e : Entry) (new : State) (stamp : ℕ) → Step point e new → Step point (stamped stamp e) new
step_same point e new stamp (applied mid means gains settled rest) =
    applied mid means
    (subst (λ (l : List Numbered). GainsMarks (λ (original : Name) (clone : FilesetSlot) (number : ℕ). Contains l (original, number)) mid.filesets new.filesets) (sym (changed_same point.state.filesets e stamp)) gains) settled
    rest
step_same point e new stamp (on_volumes replies) = on_volumes replies
step_same point e new stamp (no_space free is few takes none tight same) = no_space free is few takes none tight same
step_same point e new stamp (read_fault volume is same) = read_fault volume is same
step_same point e new stamp (panicked volume is same) = panicked volume is same
step_same point e new stamp (cancelled may was none is same) = cancelled may was none is same
step_same point e new stamp (out_of_memory is same) = out_of_memory is same

-- ---- the chain

-- a point to which the history comes with the other stamp, with all else as it was
record Restamps (start : State) (stamp : ℕ) (history : List Entry) (e : Entry) (point : Point) : Type 0 where
  past : List Answered
  chain : Chain (start_point start) (record point { past = past })
  answered : history_of past ≡ history ++ stamped stamp e ∷ []
  changed : changed_in past ≡ changed_in point.past
  many : length past ≡ length point.past

module _ (start : State) (stamp : ℕ) (history : List Entry) (e : Entry) (early : All (λ (b : Entry). b.stamp ≤ stamp) history) where
  last_step : (point : Point) (new : State) → Chain (start_point start) point → MayFollow point e → Step point e new → history_of point.past ≡ history → Restamps start stamp history e (point_after point e new)
  last_step point new chain follows step answered =
      let may : MayFollow point (stamped stamp e) =
      record { stamp = subst (All (λ (b : Entry). b.stamp ≤ stamp)) (sym answered) early; panicked = follows.panicked; actor = follows.actor } in
      let changes = λ (a : Answered). changed_by_entry a.before.filesets a.entry in
      let one : Answered = record { entry = stamped stamp e; before = point.state } in
      let was : Answered = record { entry = e; before = point.state } in
      record {
        past = point.past ++ one ∷ [];
        chain = entry chain (stamped stamp e) new may (step_same point e new stamp step);
        answered = map-append (λ (a : Answered). a.entry) point.past _ ∙ ap (λ (h : List Entry). h ++ stamped stamp e ∷ []) answered;
        changed = flat_map-append changes point.past (one ∷ []) ∙ ap (λ (l : List Numbered). changed_in point.past ++ (l ++ [])) (changed_same point.state.filesets e stamp)
            ∙ sym (flat_map-append changes point.past (was ∷ []));
        many = length-append point.past (one ∷ []) ∙ sym (length-append point.past (was ∷ []));
      }

  restamps : (point : Point) → Chain (start_point start) point → history_of point.past ≡ history ++ e ∷ [] → Restamps start stamp history e point
  restamps _ stays same = absurd (omega (arith, ap length same, length-append history (e ∷ [])))
  restamps _ (begin {point} chain idle command movers) same =
      let r = restamps point chain same in
      record { past = r.past; chain = begin r.chain idle command movers; answered = r.answered; changed = r.changed; many = r.many }
  restamps _ (silent {point} chain new may) same =
      let r = restamps point chain same in
      record { past = r.past; chain = silent r.chain new (silent_same point r.past r.changed r.many new may); answered = r.answered; changed = r.changed; many = r.many }
  restamps _ (entry {point} chain f new follows step) same =
      let ends = same_end (history_of point.past) history f e (sym (map-append (λ (a : Answered). a.entry) point.past _) ∙ same) in
      subst (λ (x : Entry). Restamps start stamp history e (point_after point x new)) (sym ends.1)
      (last_step point new chain (subst (λ (x : Entry). MayFollow point x) ends.1 follows) (subst (λ (x : Entry). Step point x new) ends.1 step) ends.0)

pub restamped : (start now : State) (history : List Entry) (job : Option Command) (e : Entry) (stamp : ℕ) → Legal start (history ++ e ∷ []) job now → All (λ (b : Entry). b.stamp ≤ stamp) history
    → Legal start (history ++ stamped stamp e ∷ []) job now
restamped start now history job e stamp legal early =
    let r = restamps start stamp history e early legal.point legal.chain legal.answered in
    record { point = record legal.point { past = r.past }; chain = r.chain; answered = r.answered; running = legal.running; ends = legal.ends }
