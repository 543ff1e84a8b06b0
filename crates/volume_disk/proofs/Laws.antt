-- How what a stop may leave goes on from call to call. Crates above cite these and look into no rack.
use Rattle.std.proofs.Common.{◌≡◌, ◌⊎◌, ◌+◌, ◌==◌, ◌&&◌, ℕ, ◌-◌, ◌^◌, ◌<◌, ◌≤◌, nat_lt, Bool, true, false, cond, IsTrue, Result, Ok, Err, OnOk, OnErr, List, [], ◌∷◌, length, refl, sym, ◌∙◌, ap, subst, inl, inr, ⊎_elim, arith}
use Rattle.std.proofs.lemmas.Bool.{cases_eq, eq-eqb, ne_eqb, lt-ltb, both_ways}
use Rattle.domain_base.specs.Counts.{raised, HasRisen}
use Rattle.volume_disk.specs.Disk.{Disk, Moment, MayLeave, Since, Tells, moment_at, Makes, MayTear, Writes, Syncs, ReadDone, ReadFailed, WriteDone, WriteFailed, SyncDone, SyncFailed, raised_at}
use Rattle.volume_disk.specs.Image.{AreBytes, Image, IsIn, NoPlace, Places, SameOutside}
use Rattle.volume_disk.specs.Run.{LeavesOnly, MayLeaveTorn, OnlyReads, OnlyWrites, Settles, Touches, TouchesEach, end_of}
use Rattle.volume_disk.proofs.Places.{in_or_out, mixed, mixed-in, mixed-out, put_at-same, put_at-other}

-- Time.

-- this moment counts
pub now_counts : (disk : Disk) (t : ℕ) (image : Image) → t ≤ disk.calls → MayLeave disk.now image → Since disk t image
now_counts disk t image le left = inl (le, left)

-- since now there is no other
pub only_now : (disk : Disk) (image : Image) → Since disk disk.calls image → MayLeave disk.now image
only_now disk image (inl (le, left)) = left
only_now disk image (inr earlier) = absurd (omega (arith, earlier.since, earlier.before))

-- so does each moment since
pub moment_counts : (disk : Disk) (t call : ℕ) (image : Image) → IsTrue disk.kept → t ≤ call → call ≤ disk.calls → MayLeave (moment_at disk call) image → Since disk t image
moment_counts disk t call image kept since made left = elim (cases_eq call disk.calls) [
  | inl is ↦ let at : (call == disk.calls) ≡ true = eq-eqb call disk.calls is in inl (omega arith, (rw at at left))
  | inr other ↦
      let at : (call == disk.calls) ≡ false = ne_eqb call disk.calls other in
      inr (record { kept = kept; call = call; since = since; before = omega arith; left = (rw at at left) })
]

module _ (old new : Disk) (reads writes : ℕ → ℕ) (moment : Moment) (makes : Makes old new reads writes moment) (told : Tells old) where
  remembered-now : IsTrue old.kept → old.calls < 2 ^ 64 - 1 → new.past old.calls ≡ old.now
  remembered-now kept lt =
      let at : (old.calls == old.calls) ≡ true = eq-eqb old.calls old.calls refl in
      let before : nat_lt old.calls (2 ^ 64 - 1) ≡ true = lt-ltb old.calls (2 ^ 64 - 1) lt in
      ap (λ (past : ℕ → Moment). past old.calls) (makes.past told) ∙ (rw (kept, at, before) refl)

  -- a moment of before is still there
  remembered-past : (t : ℕ) → (t ≡ old.calls → ⊥) → new.past t ≡ old.past t
  remembered-past t other =
      let at : (t == old.calls) ≡ false = ne_eqb t old.calls other in
      ap (λ (past : ℕ → Moment). past t) (makes.past told) ∙ not_now old.kept at
    where
      not_now : (kept : Bool) → (t == old.calls) ≡ false → cond (kept && (t == old.calls) && nat_lt t (2 ^ 64 - 1)) old.now (old.past t) ≡ old.past t
      not_now true at = rw at refl
      not_now false at = refl

  pub nothing_else : (t : ℕ) (image : Image) → t ≤ old.calls → Since new t image → Since old t image ⊎ MayLeave new.now image
  nothing_else t image le (inl (le', left)) = inr left
  nothing_else t image le (inr earlier) =
      let kept : IsTrue old.kept = sym makes.kept ∙ earlier.kept in
      elim (cases_eq earlier.call old.calls) [
        | inl is ↦ inl (inl (le, subst (λ (m : Moment). MayLeave m image) (remembered-now kept (omega (arith, earlier.before, makes.calls))) (subst (λ (t : ℕ). MayLeave (new.past t) image) is earlier.left)))
        | inr other ↦
            inl (inr (record {
              kept = kept;
              call = earlier.call;
              since = earlier.since;
              before = omega (arith, earlier.before, makes.calls);
              left = subst (λ (m : Moment). MayLeave m image) (remembered-past earlier.call other) earlier.left;
            }))
      ]

  pub keeps : (old.calls < 2 ^ 64 - 1) ⊎ ((image : Image) → MayLeave old.now image → MayLeave new.now image) → IsTrue old.kept → (t : ℕ) (image : Image) → Since old t image → Since new t image
  keeps (inl lt) kept t image (inl (le, left)) =
      inr (record {
        kept = makes.kept ∙ kept;
        call = old.calls;
        since = le;
        before = omega (arith, makes.calls);
        left = subst (λ (m : Moment). MayLeave m image) (sym (remembered-now kept lt)) left;
      })
  keeps (inr same) kept t image (inl (le, left)) = inl (omega (arith, le, makes.calls), same image left)
  keeps more kept t image (inr earlier) =
      inr (record {
        kept = makes.kept ∙ kept;
        call = earlier.call;
        since = earlier.since;
        before = omega (arith, earlier.before, makes.calls);
        left = subst (λ (m : Moment). MayLeave m image) (sym (remembered-past earlier.call (λ e. omega (arith, earlier.before)))) earlier.left;
      })

-- What each call makes of a moment.

same_moment : (old new : Moment) → new ≡ old → (image : Image) → MayLeave old image → MayLeave new image
same_moment old new same image left = subst (λ (m : Moment). MayLeave m image) (sym same) left

-- an image that may be left now may be left torn
pub untorn : (places : Places) (moment : Moment) (image : Image) → MayLeave moment image → MayLeaveTorn places moment image
untorn places moment image left = (image, left, λ v k out. refl, left.bytes)

-- a moment becomes another, in these places alone
pub record Becomes (places : Places) (old new : Moment) : Type 0 where
  pub contents : SameOutside places old.contents new.contents
  pub synced : (v k : ℕ) → ¬ places v k → old.unsynced v k ≡ false → new.unsynced v k ≡ false
  pub follows : (image : Image) → MayLeave new image → MayLeaveTorn places old image

becomes-same : (old new : Moment) → new ≡ old → Becomes NoPlace old new
becomes-same old new same = record {
  contents = λ v k out. ap (λ (m : Moment). m.contents v k) same;
  synced = λ v k out was. ap (λ (m : Moment). m.unsynced v k) same ∙ was;
  follows = λ image left. untorn NoPlace old image (same_moment new old (sym same) image left);
}

-- a place outside of a write, that was synced, holds what it did
torn_outside : (vol at n : ℕ) (old new : Moment) (image : Image) → MayTear vol at n old new → MayLeave new image → (v k : ℕ) → ¬ IsIn vol at n v k → old.unsynced v k ≡ false → image v k ≡ old.contents v k
torn_outside vol at n old new image tears left v k out synced = left.synced v k (tears.unsynced v k out ∙ synced) ∙ tears.contents v k out

-- an image mixed of two that are of bytes is of bytes
pub mixed-bytes : (vol at n : ℕ) (inner outer : Image) → AreBytes inner → AreBytes outer → AreBytes (mixed vol at n inner outer)
mixed-bytes vol at n inner outer in_bytes out_bytes v k = elim (in_or_out vol at n v k) [
  | inl is_in ↦ subst (λ (b : ℕ). b < 256) (sym (mixed-in vol at n inner outer v k is_in)) (in_bytes v k)
  | inr out ↦ subst (λ (b : ℕ). b < 256) (sym (mixed-out vol at n inner outer v k out)) (out_bytes v k)
]

-- what a write may leave is what might have been left before it, torn in its range
torn_follows : (vol at n : ℕ) (old new : Moment) (image : Image) → AreBytes old.contents → MayTear vol at n old new → MayLeave new image → MayLeaveTorn (IsIn vol at n) old image
torn_follows vol at n old new image bytes tears left = (
  mixed vol at n old.contents image,
  record { synced = was; bytes = mixed-bytes vol at n old.contents image bytes left.bytes },
  λ v k out. sym (mixed-out vol at n old.contents image v k out),
  left.bytes,
)
  where
    was : (v k : ℕ) → old.unsynced v k ≡ false → mixed vol at n old.contents image v k ≡ old.contents v k
    was v k synced = elim (in_or_out vol at n v k) [
      | inl is_in ↦ mixed-in vol at n old.contents image v k is_in
      | inr out ↦ mixed-out vol at n old.contents image v k out ∙ torn_outside vol at n old new image tears left v k out synced
    ]

becomes-torn : (vol at n : ℕ) (old new : Moment) → AreBytes old.contents → MayTear vol at n old new → Becomes (IsIn vol at n) old new
becomes-torn vol at n old new bytes tears = record {
  contents = tears.contents;
  synced = λ v k out was. tears.unsynced v k out ∙ was;
  follows = λ image left. torn_follows vol at n old new image bytes tears left;
}

-- what might have been left before a failed write may still be left
torn_keeps : (vol at n : ℕ) (old new : Moment) (image : Image) → MayTear vol at n old new → MayLeave old image → MayLeave new image
torn_keeps vol at n old new image tears left = record {
  synced = λ v k synced. left.synced v k (was v k synced (old.unsynced v k) refl) ∙ sym (tears.known v k synced);
  bytes = left.bytes;
}
  where
    was : (v k : ℕ) → new.unsynced v k ≡ false → (b : Bool) → old.unsynced v k ≡ b → old.unsynced v k ≡ false
    was v k synced false is = is
    was v k synced true is = absurd (both_ways (new.unsynced v k) synced (tears.still v k is))

-- after a sync no place is pending that was not
synced_stays : (vol : ℕ) (old new : Moment) → Syncs vol old new → (v k : ℕ) → old.unsynced v k ≡ false → new.unsynced v k ≡ false
synced_stays vol old new syncs v k was = elim (cases_eq v vol) [ inl is ↦ ap (λ (w : ℕ). new.unsynced w k) is ∙ syncs.here k | inr other ↦ syncs.elsewhere v k other ∙ was ]

-- and a stop leaves what might have been left before
synced_follows : (vol : ℕ) (old new : Moment) (image : Image) → Syncs vol old new → MayLeave new image → MayLeave old image
synced_follows vol old new image syncs left = record {
  synced = λ v k was. left.synced v k (synced_stays vol old new syncs v k was) ∙ ap (λ (image : Image). image v k) syncs.contents;
  bytes = left.bytes;
}

becomes-synced : (vol : ℕ) (old new : Moment) → Syncs vol old new → Becomes NoPlace old new
becomes-synced vol old new syncs = record {
  contents = λ v k out. ap (λ (image : Image). image v k) syncs.contents;
  synced = λ v k out was. synced_stays vol old new syncs v k was;
  follows = λ image left. untorn NoPlace old image (synced_follows vol old new image syncs left);
}

-- Counts of faults.

pub HasRisen-raised_at : (counts : ℕ → ℕ) (vol : ℕ) → HasRisen (counts vol) (raised_at counts vol vol)
HasRisen-raised_at counts vol = subst (HasRisen (counts vol)) (sym (put_at-same counts vol (raised (counts vol)))) (omega arith)

pub raised_at-other : (counts : ℕ → ℕ) (vol v : ℕ) → (v ≡ vol → ⊥) → raised_at counts vol v ≡ counts v
raised_at-other counts vol v other = put_at-other counts vol v (raised (counts vol)) other

-- no count falls
pub raised_at-later : (counts : ℕ → ℕ) (vol v : ℕ) → counts v ≤ raised_at counts vol v
raised_at-later counts vol v = elim (cases_eq v vol) [
  | inl is ↦ subst (λ (w : ℕ). counts w ≤ raised_at counts vol w) (sym is) (subst (λ (c : ℕ). counts vol ≤ c) (sym (put_at-same counts vol (raised (counts vol)))) (omega arith))
  | inr other ↦ subst (λ (c : ℕ). counts v ≤ c) (sym (raised_at-other counts vol v other)) (omega arith)
]

pub HasRisen-before : (a b c : ℕ) → a ≤ b → HasRisen b c → HasRisen a c
HasRisen-before a b c le risen = omega (arith, risen)

pub HasRisen-after : (a b c : ℕ) → HasRisen a b → b ≤ c → HasRisen a c
HasRisen-after a b c risen le = omega (arith, risen)

-- a failed read raised its count
pub HasRisen-read : (old new : Disk) (vol : ℕ) → new.read_faults ≡ raised_at old.read_faults vol → HasRisen (old.read_faults vol) (new.read_faults vol)
HasRisen-read old new vol is = subst (λ (faults : ℕ → ℕ). HasRisen (old.read_faults vol) (faults vol)) (sym is) (HasRisen-raised_at old.read_faults vol)

-- a failed write or sync raised its count
pub HasRisen-write : (old new : Disk) (vol : ℕ) → new.write_faults ≡ raised_at old.write_faults vol → HasRisen (old.write_faults vol) (new.write_faults vol)
HasRisen-write old new vol is = subst (λ (faults : ℕ → ℕ). HasRisen (old.write_faults vol) (faults vol)) (sym is) (HasRisen-raised_at old.write_faults vol)

-- What every image since a moment has.

-- before the first call
pub started : (disk : Disk) (P : Image → Type 0) → ((image : Image) → MayLeave disk.now image → P image) → LeavesOnly disk disk P
started disk P here = record { later = omega arith; each = λ image left. here image (only_now disk image left); before = λ t image le left. inl left }

-- one run after another
pub then_on : (old mid new : Disk) (P : Image → Type 0) → LeavesOnly old mid P → LeavesOnly mid new P → LeavesOnly old new P
then_on old mid new P first second = record {
  later = omega (arith, first.later, second.later);
  each = λ image left. ⊎_elim (first.each image) (λ p. p) (second.before old.calls image first.later left);
  before = λ t image le left. ⊎_elim (first.before t image le) (λ p. inr p) (second.before t image (omega (arith, le, first.later)) left);
}

pub weaker : (old new : Disk) (P Q : Image → Type 0) → ((image : Image) → P image → Q image) → LeavesOnly old new P → LeavesOnly old new Q
weaker old new P Q weak only = record {
  later = only.later;
  each = λ image left. weak image (only.each image left);
  before = λ t image le left. ⊎_elim (λ was. inl was) (λ p. inr (weak image p)) (only.before t image le left);
}

-- two facts of every image hold together
pub both : (old new : Disk) (P Q : Image → Type 0) → LeavesOnly old new P → LeavesOnly old new Q → LeavesOnly old new (λ image. P image × Q image)
both old new P Q one other = record {
  later = one.later;
  each = λ image left. (one.each image left, other.each image left);
  before = λ t image le left. ⊎_elim (λ was. inl was) (λ p. ⊎_elim (λ was. inl was) (λ q. inr (p, q)) (other.before t image le left)) (one.before t image le left);
}

-- what every image since a moment has, every image of now has
pub leaves-now : (old new : Disk) (P : Image → Type 0) → LeavesOnly old new P → (image : Image) → MayLeave new.now image → P image
leaves-now old new P only image left = only.each image (now_counts new old.calls image only.later left)

-- A run of one call.

module _ (old new : Disk) (reads writes : ℕ → ℕ) (moment : Moment) (makes : Makes old new reads writes moment) where
  call_leaves : Tells old → (P : Image → Type 0) → ((image : Image) → MayLeave old.now image → P image) → ((image : Image) → MayLeave new.now image → P image) → LeavesOnly old new P
  call_leaves told P was is = record {
    later = omega (arith, makes.calls);
    each = λ image left. ⊎_elim (λ before. was image (only_now old image before)) (is image) (nothing_else old new reads writes moment makes told old.calls image (omega arith) left);
    before = λ t image le left. ⊎_elim (λ before. inl before) (λ now. inr (is image now)) (nothing_else old new reads writes moment makes told t image le left);
  }

  touches-call : (places : Places) → ((v : ℕ) → old.read_faults v ≤ reads v) → ((v : ℕ) → old.write_faults v ≤ writes v) → (Tells old → Becomes places old.now new.now)
      → (Tells old → (old.calls < 2 ^ 64 - 1) ⊎ ((image : Image) → MayLeave old.now image → MayLeave new.now image)) → Touches old new places
  touches-call places more_reads more_writes becomes room = record {
    sizes = makes.sizes;
    told = makes.told;
    kept = makes.kept;
    later = omega (arith, makes.calls);
    read_faults = λ v. subst (λ (faults : ℕ → ℕ). old.read_faults v ≤ faults v) (sym makes.read_faults) (more_reads v);
    write_faults = λ v. subst (λ (faults : ℕ → ℕ). old.write_faults v ≤ faults v) (sym makes.write_faults) (more_writes v);
    contents = λ told. (becomes told).contents;
    synced = λ told. (becomes told).synced;
    tears = λ told. call_leaves told (MayLeaveTorn places old.now) (untorn places old.now) (becomes told).follows;
    keeps = λ told. keeps old new reads writes moment makes told (room told);
  }

same_faults : (old : Disk) (v : ℕ) → old.read_faults v ≤ old.read_faults v
same_faults old v = omega arith

by_result : {T E A B C : Type 0} (result : Result T E) → OnOk result A → OnErr result B → (A → C) → (B → C) → C
by_result (Ok x) a b f g = f a
by_result (Err e) a b f g = g b

-- a read, whatever it answers
module _ {T E : Type 0} (old new : Disk) (vol at n : ℕ) (out : List ℕ) (result : Result T E) (done : OnOk result (ReadDone old new vol at n out)) (failed : OnErr result (ReadFailed old new vol)) where
  pub touches-read : Touches old new NoPlace
  touches-read =
      by_result result done failed
      (λ d. touches-call old new old.read_faults old.write_faults old.now d.makes NoPlace (λ v. omega arith) (λ v. omega arith) (λ told. becomes-same old.now new.now (d.makes.now told)) (λ told. inl d.passed.0))
      (λ f. touches-call old new (raised_at old.read_faults vol) old.write_faults old.now f NoPlace (raised_at-later old.read_faults vol) (λ v. omega arith) (λ told. becomes-same old.now new.now (f.now told)) (λ told. inr (same_moment old.now new.now (f.now told))))

  pub only_reads-read : OnlyReads old new
  only_reads-read = record {
    touches = touches-read;
    write_faults = by_result result done failed (λ d. d.makes.write_faults) (λ f. f.write_faults);
    now = λ told. by_result result done failed (λ d. d.makes.now told) (λ f. f.now told);
  }

-- a write
module _ {T E : Type 0} (old new : Disk) (bytes_held : Tells old → AreBytes old.now.contents) (vol at : ℕ) (bytes : List ℕ) (result : Result T E)
    (done : OnOk result (WriteDone old new vol at bytes)) (failed : OnErr result (WriteFailed old new vol at (length bytes))) where
  pub touches-write : Touches old new (IsIn vol at (length bytes))
  touches-write =
      by_result result done failed
      (λ d. touches-call old new old.read_faults old.write_faults new.now d.makes (IsIn vol at (length bytes)) (λ v. omega arith) (λ v. omega arith)
      (λ told. becomes-torn vol at (length bytes) old.now new.now (bytes_held told) (d.writes told).tears) (λ told. inl d.passed.0))
      (λ f. touches-call old new old.read_faults (raised_at old.write_faults vol) new.now f.makes (IsIn vol at (length bytes)) (λ v. omega arith) (raised_at-later old.write_faults vol)
      (λ told. becomes-torn vol at (length bytes) old.now new.now (bytes_held told) (f.tears told)) (λ told. inr (λ image. torn_keeps vol at (length bytes) old.now new.now image (f.tears told))))

  pub only_writes-write : OnlyWrites old new (IsIn vol at (length bytes))
  only_writes-write = record {
    touches = touches-write;
    read_faults = by_result result done failed (λ d. d.makes.read_faults) (λ f. f.makes.read_faults);
  }

-- a sync
module _ {T E : Type 0} (old new : Disk) (vol : ℕ) (result : Result T E) (done : OnOk result (SyncDone old new vol)) (failed : OnErr result (SyncFailed old new vol)) where
  pub touches-sync : Touches old new NoPlace
  touches-sync =
      by_result result done failed
      (λ d. touches-call old new old.read_faults old.write_faults new.now d.makes NoPlace (λ v. omega arith) (λ v. omega arith) (λ told. becomes-synced vol old.now new.now (d.syncs told)) (λ told. inl d.passed.0))
      (λ f. touches-call old new old.read_faults (raised_at old.write_faults vol) old.now f NoPlace (λ v. omega arith) (raised_at-later old.write_faults vol) (λ told. becomes-same old.now new.now (f.now told))
      (λ told. inr (same_moment old.now new.now (f.now told))))

  pub only_writes-sync : OnlyWrites old new NoPlace
  only_writes-sync = record {
    touches = touches-sync;
    read_faults = by_result result done failed (λ d. d.makes.read_faults) (λ f. f.read_faults);
  }

-- Runs of calls.

-- no call
pub touches-none : (disk : Disk) (places : Places) → Touches disk disk places
touches-none disk places = record {
  sizes = refl;
  told = refl;
  kept = refl;
  later = omega arith;
  read_faults = λ v. omega arith;
  write_faults = λ v. omega arith;
  contents = λ told v k out. refl;
  synced = λ told v k out was. was;
  tears = λ told. started disk (MayLeaveTorn places disk.now) (untorn places disk.now);
  keeps = λ told kept t image left. left;
}

torn_wider : (places wider : Places) → ((v k : ℕ) → places v k → wider v k) → (moment : Moment) (image : Image) → MayLeaveTorn places moment image → MayLeaveTorn wider moment image
torn_wider places wider within moment image torn = (torn.0, torn.1, λ v k out. torn.2 v k (λ is_in. out (within v k is_in)), torn.3)

-- what touches some places touches more of them
pub touches-wider : (old new : Disk) (places wider : Places) → ((v k : ℕ) → places v k → wider v k) → Touches old new places → Touches old new wider
touches-wider old new places wider within touches = record {
  sizes = touches.sizes;
  told = touches.told;
  kept = touches.kept;
  later = touches.later;
  read_faults = touches.read_faults;
  write_faults = touches.write_faults;
  contents = λ told v k out. touches.contents told v k (λ is_in. out (within v k is_in));
  synced = λ told v k out. touches.synced told v k (λ is_in. out (within v k is_in));
  tears = λ told. weaker old new (MayLeaveTorn places old.now) (MayLeaveTorn wider old.now) (torn_wider places wider within old.now) (touches.tears told);
  keeps = touches.keeps;
}

-- what is torn twice in some places is torn in them
torn_again : (places : Places) (old mid : Disk) (image : Image) → LeavesOnly old mid (MayLeaveTorn places old.now) → MayLeaveTorn places mid.now image → MayLeaveTorn places old.now image
torn_again places old mid image first torn =
    let was = leaves-now old mid (MayLeaveTorn places old.now) first torn.0 torn.1 in
    (was.0, was.1, λ v k out. torn.2 v k out ∙ was.2 v k out, torn.3)

-- one run after another
pub touches-then : (old mid new : Disk) (places : Places) → Touches old mid places → Touches mid new places → Touches old new places
touches-then old mid new places first second = record {
  sizes = second.sizes ∙ first.sizes;
  told = second.told ∙ first.told;
  kept = second.kept ∙ first.kept;
  later = omega (arith, first.later, second.later);
  read_faults = λ v. let a = first.read_faults v in let b = second.read_faults v in omega arith;
  write_faults = λ v. let a = first.write_faults v in let b = second.write_faults v in omega arith;
  contents = λ told v k out. second.contents (first.told ∙ told) v k out ∙ first.contents told v k out;
  synced = λ told v k out was. second.synced (first.told ∙ told) v k out (first.synced told v k out was);
  tears = λ told.
      let P = MayLeaveTorn places old.now in
      let so_far = first.tears told in
      then_on old mid new P so_far (weaker mid new (MayLeaveTorn places mid.now) P (λ image. torn_again places old mid image so_far) (second.tears (first.told ∙ told)));
  keeps = λ told kept t image left. second.keeps (first.told ∙ told) (first.kept ∙ kept) t image (first.keeps told kept t image left);
}

-- what every image has, whatever it has in the places that a run touches, every image since its start has
pub touches-leaves : (old new : Disk) (places : Places) (P : Image → Type 0) → Tells old → Touches old new places → ((image : Image) → MayLeaveTorn places old.now image → P image) → LeavesOnly old new P
touches-leaves old new places P told touches has = weaker old new (MayLeaveTorn places old.now) P has (touches.tears told)

-- so what does not depend on these places stays
pub touches-stays : (old new : Disk) (places : Places) (P : Image → Type 0) → Tells old → Touches old new places → ((before image : Image) → SameOutside places before image → P before → P image)
    → ((image : Image) → MayLeave old.now image → P image) → LeavesOnly old new P
touches-stays old new places P told touches same has = touches-leaves old new places P told touches (λ image torn. same torn.0 image torn.2 (has torn.0 torn.1))

-- what is torn in a range now was torn there before, but for the places that were touched since
pub torn_before : (old new : Disk) (places : Places) (w from m : ℕ) (image : Image) → Tells old → Touches old new places → MayLeaveTorn (IsIn w from m) new.now image
    → (before : Image) × MayLeaveTorn (IsIn w from m) old.now before × SameOutside places before image
torn_before old new places w from m image told touches torn =
    let was = leaves-now old new (MayLeaveTorn places old.now) (touches.tears told) torn.0 torn.1 in (
      mixed w from m image was.0,
      (was.0, was.1, mixed-out w from m image was.0, mixed-bytes w from m image was.0 torn.3 was.1.bytes),
      λ v k out.
          elim (in_or_out w from m v k) [
            | inl is_in ↦ sym (mixed-in w from m image was.0 v k is_in)
            | inr beside ↦ torn.2 v k beside ∙ was.2 v k out ∙ sym (mixed-out w from m image was.0 v k beside)
          ],
    )

-- a range lies in a wider one
pub in_wider : (vol at n w from m : ℕ) → vol ≡ w → from ≤ at → at + n ≤ from + m → (v k : ℕ) → IsIn vol at n v k → IsIn w from m v k
in_wider vol at n w from m is low high v k is_in = let a = is_in.1 in let b = is_in.2 in (is_in.0 ∙ is, omega arith, omega arith)

-- Runs of reads, and of writes.

pub only_reads-none : (disk : Disk) → OnlyReads disk disk
only_reads-none disk = record { touches = touches-none disk NoPlace; write_faults = refl; now = λ told. refl }

pub only_reads-then : (old mid new : Disk) → OnlyReads old mid → OnlyReads mid new → OnlyReads old new
only_reads-then old mid new first second = record {
  touches = touches-then old mid new NoPlace first.touches second.touches;
  write_faults = second.write_faults ∙ first.write_faults;
  now = λ told. second.now (first.touches.told ∙ told) ∙ first.now told;
}

-- it leaves what might have been left before it
pub only_reads-leaves : (old new : Disk) (P : Image → Type 0) → Tells old → OnlyReads old new → ((image : Image) → MayLeave old.now image → P image) → LeavesOnly old new P
only_reads-leaves old new P told reads here =
    record {
      later = (reads.touches.tears told).later;
      each = λ image left. ⊎_elim (λ was. here image (only_now old image was)) (λ p. p) (before old.calls image (omega arith) left);
      before = before;
    }
  where
    before : (t : ℕ) (image : Image) → t ≤ old.calls → Since new t image → Since old t image ⊎ P image
    before t image le (inl now) = inr (here image (same_moment new.now old.now (sym (reads.now told)) image now.1))
    before t image le (inr earlier) = ⊎_elim (λ was. inl was) (λ torn. inr (here image (was_left image torn))) ((reads.touches.tears told).before t image le (inr earlier))
      where
        was_left : (image : Image) → MayLeaveTorn NoPlace old.now image → MayLeave old.now image
        was_left image torn = record { synced = λ v k synced. torn.2 v k (λ none. none) ∙ torn.1.synced v k synced; bytes = torn.3 }

pub only_writes-wider : (old new : Disk) (places wider : Places) → ((v k : ℕ) → places v k → wider v k) → OnlyWrites old new places → OnlyWrites old new wider
only_writes-wider old new places wider within writes = record { touches = touches-wider old new places wider within writes.touches; read_faults = writes.read_faults }

pub only_writes-then : (old mid new : Disk) (places : Places) → OnlyWrites old mid places → OnlyWrites mid new places → OnlyWrites old new places
only_writes-then old mid new places first second = record {
  touches = touches-then old mid new places first.touches second.touches;
  read_faults = second.read_faults ∙ first.read_faults;
}

-- a range in a wider one
pub only_writes-within : (old new : Disk) (vol at n w from m : ℕ) → vol ≡ w → from ≤ at → at + n ≤ from + m → OnlyWrites old new (IsIn vol at n) → OnlyWrites old new (IsIn w from m)
only_writes-within old new vol at n w from m is low high = only_writes-wider old new (IsIn vol at n) (IsIn w from m) (in_wider vol at n w from m is low high)

-- a write, and a sync
pub only_writes-synced : (old mid new : Disk) (places : Places) → OnlyWrites old mid places → OnlyWrites mid new NoPlace → OnlyWrites old new places
only_writes-synced old mid new places writes syncs = only_writes-then old mid new places writes (only_writes-wider mid new NoPlace places (λ v k none. absurd none) syncs)

-- the same bytes at the same place
pub Settles-moved : (vol at w from : ℕ) (bytes : List ℕ) (old new : Moment) → vol ≡ w → at ≡ from → Settles vol at bytes old new → Settles w from bytes old new
Settles-moved vol at w from bytes old new is at_is settles = subst (λ (k : ℕ). Settles w k bytes old new) at_is (subst (λ (v : ℕ). Settles v at bytes old new) is settles)

-- what a write and a sync that are done make of a moment
pub Settles-done : (vol at : ℕ) (bytes : List ℕ) (old mid new : Moment) → Writes vol at bytes old mid → Syncs vol mid new → Settles vol at bytes old new
Settles-done vol at bytes old mid new writes syncs = record {
  written = λ k lt. ap (λ (image : Image). image vol (at + k)) syncs.contents ∙ writes.written k lt;
  outside = λ v k out. ap (λ (image : Image). image v k) syncs.contents ∙ writes.tears.contents v k out;
  here = syncs.here;
  elsewhere = λ v k other. syncs.elsewhere v k other ∙ writes.tears.unsynced v k (λ is_in. other is_in.0);
}

-- Runs one after the other, however many, are one run.
pub touches-joined : (places : Places) (disk : Disk) (disks : List Disk) → TouchesEach places disk disks → Touches disk (end_of disk disks) places
touches-joined places disk [] each = touches-none disk places
touches-joined places disk (next ∷ more) each = touches-then disk next (end_of next more) places each.0 (touches-joined places next more each.1)
