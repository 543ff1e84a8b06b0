-- A stop after the sync of a short history.
use Rattle.std.proofs.Common.{◌≡◌, ◌≢◌, ℕ, ◌≤◌, false, List, [], ◌∷◌, Option, Some, None, refl, sym, ap, ◌∙◌, cond, ◌+◌, arith, inl, nat_le, All, is_some, map as map_list}
use Rattle.std.proofs.lemmas.List.Elements.{All-nil, All-cons, All-contains}
use Rattle.legal_histories.specs.VolumeReply.{is_movers}
use Rattle.fileset_model.specs.fileset_values.declared.reply.Refusal.TheVariants.{Panicked}
use Rattle.std.specs.FinMap as map
use Rattle.fileset_model.specs.domain_base.declared.version.Version.{Version}
use Rattle.legal_histories.specs.AfterStop.{AfterStop, IsLoose}
use Rattle.legal_histories.proofs.AlikeLemmas.{looks_like_itself, same_as_itself}
use Rattle.fileset_model.proofs.OfFilesetValues.MapLemmas.{get-insert_other}
use Rattle.legal_histories.specs.AfterStop.Found.{there}
use Rattle.legal_histories.specs.Example.{two_filesets, with_empty}
use Rattle.legal_histories.specs.Legal.{Chain, MayFollow}
use Rattle.legal_histories.specs.Legal.Chain.{stays, entry}
use Rattle.legal_histories.specs.Marks.{GainsMarks, RoleGains, SlotGains}
use Rattle.fileset_model.specs.fileset_values.Orders.{Name, name_cmp-total, name_cmp-IsAntisymmetric}
use Rattle.legal_histories.specs.Point.{Point, history_of, point_after, start_point}
use Rattle.fileset_model.specs.Filesets.{FilesetMap}
use Rattle.legal_histories.specs.State.{Apply, State, new_domain, with_filesets}
use Rattle.legal_histories.specs.Step.{Step}
use Rattle.legal_histories.specs.Step.Step.{applied}
use Rattle.fileset_model.specs.fileset_values.declared.command.Command.TheVariants.{Mkfset, Sync}
use Rattle.fileset_model.specs.fileset_values.declared.command.Actor.TheVariants.{Client}
use Rattle.fileset_model.specs.fileset_values.declared.entry.Entry.{Entry}
use Rattle.fileset_model.specs.declared.fileset.FilesetSlot.{FilesetSlot}
use Rattle.fileset_model.specs.declared.fileset.Role.{Role}
use Rattle.fileset_model.specs.declared.fileset.Role.TheVariants.{Original, CloneOf}
use Rattle.fileset_model.specs.fileset_values.declared.reply.Reply.TheVariants.{Done, Refused}

-- nothing is marked
role_stays : (Allowed : Name → FilesetSlot → ℕ → Type 0) (slot : FilesetSlot) (role : Role) → RoleGains Allowed slot role role
role_stays Allowed slot Original = refl
role_stays Allowed slot (CloneOf original out) = (refl, λ number was. was, λ number is not. absurd (cc))

slot_stays : (Allowed : Name → FilesetSlot → ℕ → Type 0) (found : Option FilesetSlot) → SlotGains Allowed found found
slot_stays Allowed None = refl
slot_stays Allowed (Some slot) = (refl, role_stays Allowed slot slot.role)

no_marks : (Allowed : Name → FilesetSlot → ℕ → Type 0) (all : FilesetMap) → GainsMarks Allowed all all
no_marks Allowed all name = slot_stays Allowed (map.get all name)

-- a front of an order is in order
follows : (point : Point) (e : Entry) (number : ℕ) → All (λ before. before.stamp ≤ e.stamp) (history_of point.past)
    → All (λ before. before ≡ Done) (map_list (λ before. before.reply) (history_of point.past)) → e.actor ≡ Client number → is_movers e.command ≡ false
    → MayFollow point e
follows point e number stamps done client clients = record {
  stamp = stamps;
  panicked = λ volume had. absurd (not_done volume (All-contains (λ r. r ≡ Done) _ _ done had));
  actor = rw client clients;
}
  where
    not_done : (volume : ℕ) → Refused (Panicked volume) ≡ Done → ⊥
    not_done volume same = cc

-- mkfset where the name is free
made : (s : State) (name : Name) → map.contains_key s.filesets name ≡ false → nat_le 16 (map.len s.filesets) ≡ false
    → Apply s (Mkfset name) Done (with_filesets (with_empty name s.filesets) s)
made s name free few = (rw (free, few) (refl, (1, refl)), refl)

-- an entry that means what its command means
step_of : (point : Point) (e : Entry) (new : State) → Apply point.state e.command e.reply new → Step point e new
step_of point e new means = applied new means (no_marks _ new.filesets) (inl refl) refl

abbrev no_filesets : FilesetMap
no_filesets = map.empty

pub left : (version : Version) (sizes : List ℕ) (name other : Name) → name ≢ other
    → AfterStop (new_domain version sizes) (two_filesets name other) None 1 (with_empty name map.empty)
left version sizes name other differ =
    let s0 = new_domain version sizes in
    let s1 = with_filesets (with_empty name map.empty) s0 in
    let s2 = with_filesets s1.filesets s1 in
    let s3 = with_filesets (with_empty other s2.filesets) s2 in
    let free : map.contains_key s2.filesets other ≡ false =
    ap is_some (get-insert_other name_cmp-total name_cmp-IsAntisymmetric map.empty name _ other (λ same. differ (sym same)) ∙ map.get-empty _ other) in
    let few : nat_le 16 (map.len s2.filesets) ≡ false =
    ap (nat_le 16) (map.len-insert name_cmp-total map.empty name _ ∙ ap (λ has. cond has (map.len no_filesets) (map.len no_filesets + 1)) (ap is_some (map.get-empty _ name)) ∙ ap (λ n. n + 1) (map.len-empty _ _)) in
    let e1 : Entry = record { actor = Client 1; command = Mkfset name; reply = Done; stamp = 1 } in
    let e2 : Entry = record { actor = Client 1; command = Sync; reply = Done; stamp = 1 } in
    let e3 : Entry = record { actor = Client 1; command = Mkfset other; reply = Done; stamp = 2 } in
    let p0 = start_point s0 in
    let p1 = point_after p0 e1 s1 in
    let p2 = point_after p1 e2 s2 in
    let first : Chain p0 p1 = entry stays e1 s1 (follows p0 e1 1 (All-nil _) (All-nil _) refl refl) (step_of p0 e1 s1 (made s0 name (ap is_some (map.get-empty _ name)) (ap (nat_le 16) (map.len-empty _ _)))) in
    let second : Chain p0 p2 = entry first e2 s2 (follows p1 e2 1 (All-cons (λ (b : Entry). b.stamp ≤ 1) e1 [] (omega arith) (All-nil _)) (All-cons (λ r. r ≡ Done) Done [] refl (All-nil _)) refl refl) (step_of p1 e2 s2 ((refl, refl), refl)) in
    record {
      front = p2;
      later = record { entry = e3; before = s2 } ∷ [];
      end = point_after p2 e3 s3;
      begun = second;
      goes_on = entry stays e3 s3 (follows p2 e3 1 (All-cons (λ (b : Entry). b.stamp ≤ 2) e1 (e2 ∷ []) (omega arith) (All-cons (λ (b : Entry). b.stamp ≤ 2) e2 [] (omega arith) (All-nil _))) (All-cons (λ r. r ≡ Done) Done (Done ∷ []) refl (All-cons (λ r. r ≡ Done) Done [] refl (All-nil _))) refl refl) (step_of p2 e3 s3 (made s2 other free few));
      split = refl;
      whole = refl;
      running = refl;
      synced = (omega arith);
      state = s2;
      found = there (record { last = p2; chain = stays; no_entry = refl; same_job = refl; ends = refl });
      left = s2.filesets;
      same = same_as_itself (IsLoose (point_after p2 e3 s3).past 1) s2.filesets;
      looks = looks_like_itself s2.filesets;
    }
