-- What is always so of a volume's free cells stays so, and what a change of them is.
use Rattle.std.proofs.Common.{◌≡◌, ◌∙◌, ⊎_elim, ℕ, ◌+◌, ◌*◌, ◌<◌, ◌≤◌, Bool, true, false, not, ◌&&◌, ◌||◌, nat_eq, nat_lt, List, [], ◌∷◌, ◌++◌, length, get_or, take, append_assoc, refl, sym, ap, subst, arith, length-append}
use Rattle.std.proofs.lemmas.Bool.{and_parts, eqb-true, or_cases, true≢false}
use Rattle.std.proofs.lemmas.List.{append-nil, length_push, take_all, take_more, length-take-le}
use Rattle.std.specs.List.{IsDistinct}
use Rattle.metadata_cells.specs.CellPage.{is_free_in}
use Rattle.free_cells.specs.declared.volume.FreeCell.{FreeCell}
use Rattle.free_cells.specs.VolumeTable.{IsOn, IsSound, VolumeIs, VolumeTable, free_now, is_among, is_free_there, same_cell}
use Rattle.free_cells.proofs.Among.{AreApart, front_of_apart, cells_flip, among_both, among_push, apart_push, both_apart, less_apart, less_cells, none_apart, rest_apart}
use Rattle.free_cells.proofs.OnTable.{no_more, room_left}

-- ---- one cell less, one more

pub fresh_popped : (kept : List FreeCell) (live : ℕ) (old new : List FreeCell) (f : FreeCell) → old ≡ new ++ f ∷ [] → free_now kept live old ≡ free_now kept live new ++ f ∷ []
fresh_popped kept live old new f is = ap (λ xs. take live kept ++ xs) is ∙ sym (append_assoc (take live kept) new (f ∷ []))

pub kept_popped : (kept : List FreeCell) (live less : ℕ) (old new : List FreeCell) (f : FreeCell) → less + 1 ≡ live → live ≤ length kept → get_or kept less f ≡ f → old ≡ [] → new ≡ []
    → free_now kept live old ≡ free_now kept less new ++ f ∷ []
kept_popped kept live less old new f next within is none none_now =
    ap (λ xs. take live kept ++ xs) none ∙ append-nil (take live kept) ∙ ap (λ n. take n kept) (sym next) ∙ take_more kept less f (omega (arith, next, within))
    ∙ ap (λ g. take less kept ++ g ∷ []) is ∙ ap (λ xs. xs ++ f ∷ []) (sym (append-nil (take less kept)) ∙ ap (λ xs. take less kept ++ xs) (sym none_now))

pub fresh_pushed : (kept : List FreeCell) (live : ℕ) (old new : List FreeCell) (f : FreeCell) → new ≡ old ++ f ∷ [] → free_now kept live new ≡ free_now kept live old ++ f ∷ []
fresh_pushed kept live old new f is = fresh_popped kept live new old f is

-- the free cells of a volume without the last one
pub cell_taken : (v after : VolumeTable) (f : FreeCell) → IsDistinct same_cell v.free → v.free ≡ after.free ++ f ∷ [] → after.table ≡ v.table → after.is_closed ≡ v.is_closed → after.kept ≡ v.kept
    → VolumeIs v.table v.is_closed (λ g. not (same_cell f g) && is_among v.free g) v.kept after
cell_taken v after f apart is table mark kept = record { pages = table; mark = mark; cells = (less_cells v.free after.free f is apart).1; keeps = kept }

module _ (table : List ℕ) (pages : ℕ) (kept : List FreeCell) (live room : ℕ) where
  pub fresh_less : (old new : List FreeCell) (was now : ℕ) (f : FreeCell) → IsSound table pages kept live old room was → old ≡ new ++ f ∷ [] → now ≡ was
      → IsSound table pages kept live new room now
  fresh_less old new was now f sound is same = record {
    within = sound.within;
    among = sound.among;
    apart = less_apart (free_now kept live old) (free_now kept live new) f (fresh_popped kept live old new f is) sound.apart;
    kept_apart = sound.kept_apart;
    enough = sound.enough;
    fresh_enough = omega (arith, sound.fresh_enough, same);
    fits = omega (arith, sound.fits, ap length is, length-append new (f ∷ []));
  }

  pub kept_less : (less : ℕ) (old new : List FreeCell) (was now : ℕ) (f : FreeCell) → IsSound table pages kept live old room was → less + 1 ≡ live → get_or kept less f ≡ f → old ≡ [] → new ≡ []
      → now ≡ was → IsSound table pages kept less new room now
  kept_less less old new was now f sound next is none none_now same = record {
    within = sound.within;
    among = omega (arith, sound.among, next);
    apart = less_apart (free_now kept live old) (free_now kept less new) f (kept_popped kept live less old new f next sound.among is none none_now) sound.apart;
    kept_apart = sound.kept_apart;
    enough = sound.enough;
    fresh_enough = omega (arith, sound.fresh_enough, same);
    fits = omega (arith, sound.fits, next, ap length none, ap length none_now);
  }

  -- how many cells are free
  pub free_count : (fresh : List FreeCell) (fresh_room : ℕ) → IsSound table pages kept live fresh room fresh_room → length (free_now kept live fresh) ≡ live + length fresh
  free_count fresh fresh_room sound = omega (arith, length-append (take live kept) fresh, length-take-le live kept sound.among)

  pub room_for_one : (fresh : List FreeCell) (fresh_room : ℕ) (f : FreeCell) → IsSound table pages kept live fresh room fresh_room
      → ((g : FreeCell) → is_among (free_now kept live fresh) g ≡ true → IsOn table g) → IsOn table f → is_among (free_now kept live fresh) f ≡ false → live + length fresh < 28 * length table
  room_for_one fresh fresh_room f sound on placed used =
      omega (arith, free_count fresh fresh_room sound, room_left table (free_now kept live fresh) sound.apart on f placed used)

  pub room_for_all : (fresh : List FreeCell) (fresh_room : ℕ) → IsSound table pages kept live fresh room fresh_room
      → ((g : FreeCell) → is_among (free_now kept live fresh) g ≡ true → IsOn table g) → live + length fresh ≤ 28 * length table
  room_for_all fresh fresh_room sound on = omega (arith, free_count fresh fresh_room sound, no_more table (free_now kept live fresh) sound.apart on)

  pub fresh_more : (old new : List FreeCell) (was now : ℕ) (f : FreeCell) → IsSound table pages kept live old room was → is_among (free_now kept live old) f ≡ false
      → live + length old < 28 * length table → new ≡ old ++ f ∷ [] → now ≡ was → IsSound table pages kept live new room now
  fresh_more old new was now f sound used few is same = record {
    within = sound.within;
    among = sound.among;
    apart = subst (IsDistinct same_cell) (sym (fresh_pushed kept live old new f is)) (apart_push (free_now kept live old) f sound.apart used);
    kept_apart = sound.kept_apart;
    enough = sound.enough;
    fresh_enough = omega (arith, sound.fresh_enough, same);
    fits = omega (arith, sound.enough, few, ap length is, length-append old (f ∷ []));
  }

-- a cell is free that was not
pub cell_given : (v after : VolumeTable) (f : FreeCell) → after.free ≡ v.free ++ f ∷ [] → after.table ≡ v.table → after.is_closed ≡ v.is_closed → after.kept ≡ v.kept
    → VolumeIs v.table v.is_closed (λ g. same_cell f g || is_among v.free g) v.kept after
cell_given v after f is table mark kept = record { pages = table; mark = mark; cells = λ g. ap (λ fs. is_among fs g) is ∙ among_push v.free f g ∙ either (is_among v.free g) (same_cell g f) (same_cell f g) (cells_flip g f); keeps = kept }
  where
    either : (a b c : Bool) → b ≡ c → (a || b) ≡ (c || a)
    either true b true same = refl
    either true b false same = refl
    either false b true same = same
    either false b false same = same

-- ---- a page joins

module _ (table : List ℕ) (pages : ℕ) (kept : List FreeCell) (live : ℕ) (old : List FreeCell) (room was number : ℕ) (sound : IsSound table pages kept live old room was)
    (missing : (f : FreeCell) → f.page ≡ number → is_among (free_now kept live old) f ≡ false) where
  -- what is so of the fresh cells alone
  pub fresh_apart : IsDistinct same_cell old
  fresh_apart = (rest_apart (take live kept) old sound.apart).0

  pub not_fresh : (f : FreeCell) → f.page ≡ number → is_among old f ≡ false
  not_fresh f there = right (is_among (take live kept) f) (is_among old f) (sym (among_both (take live kept) old f) ∙ missing f there)
    where
      right : (a b : Bool) → (a || b) ≡ false → b ≡ false
      right false b none = none
      right true b none = absurd (true≢false none)

  not_kept : (f : FreeCell) → f.page ≡ number → is_among (take live kept) f ≡ false
  not_kept f there = left (is_among (take live kept) f) (is_among old f) (sym (among_both (take live kept) old f) ∙ missing f there)
    where
      left : (a b : Bool) → (a || b) ≡ false → a ≡ false
      left false b none = refl
      left true b none = none

  module _ (page : List ℕ) (new : List FreeCell) (joined : (f : FreeCell) → is_among new f ≡ (is_among old f || is_free_there number page f)) where
    not_both : AreApart (take live kept) new
    not_both f there = ⊎_elim (λ was. (rest_apart (take live kept) old sound.apart).1 f was)
        (λ joins. not_kept f (eqb-true f.page number (and_parts (nat_eq f.page number) (nat_lt f.cell 28 && is_free_in page f.cell) joins).0))
        (or_cases (is_among old f) (is_free_there number page f) (sym (joined f) ∙ there))

    pub page_sound : (table_now : List ℕ) (kept_now : List FreeCell) (room_now now : ℕ) → ((g : FreeCell) → is_among (free_now kept live old) g ≡ true → IsOn table g) → table_now ≡ table ++ number ∷ [] → kept_now ≡ kept
        → IsDistinct same_cell new → length new ≤ length old + 28 → 28 * (length table + 1) ≤ room_now → 28 * (length table + 1) ≤ now
        → IsSound table_now pages kept_now live new room_now now
    page_sound table_now kept_now room_now now on longer same apart few enough fresh_enough = record {
      within = omega (arith, sound.within, long);
      among = omega (arith, sound.among, ap length same);
      apart = subst (λ (xs : List FreeCell). IsDistinct same_cell (take live xs ++ new)) (sym same)
          (both_apart (take live kept) new (front_of_apart (take live kept) old sound.apart) apart not_both);
      kept_apart = subst (IsDistinct same_cell) (sym same) sound.kept_apart;
      enough = omega (arith, enough, long);
      fresh_enough = omega (arith, fresh_enough, long);
      fits = omega (arith, few, enough, room_for_all table pages kept live room old was sound on);
    }
      where
        long : length table_now ≡ length table + 1
        long = ap length longer ∙ length_push table number

-- and its cells are free
pub page_given : (v after : VolumeTable) (number : ℕ) (page : List ℕ) (front old new : List FreeCell) → v.free ≡ front ++ old → after.free ≡ front ++ new
    → ((f : FreeCell) → is_among new f ≡ (is_among old f || is_free_there number page f)) → after.table ≡ v.table ++ number ∷ [] → after.is_closed ≡ v.is_closed → after.kept ≡ v.kept
    → VolumeIs (v.table ++ number ∷ []) v.is_closed (λ g. is_among v.free g || is_free_there number page g) v.kept after
page_given v after number page front old new was now joined table mark kept = record {
  pages = table;
  mark = mark;
  cells = λ g. ap (λ fs. is_among fs g) now ∙ among_both front new g ∙ ap (λ b. is_among front g || b) (joined g) ∙ regroup (is_among front g) (is_among old g) (is_free_there number page g)
      ∙ ap (λ b. b || is_free_there number page g) (sym (ap (λ fs. is_among fs g) was ∙ among_both front old g));
  keeps = kept;
}
  where
    regroup : (a b c : Bool) → (a || (b || c)) ≡ ((a || b) || c)
    regroup true b c = refl
    regroup false b c = refl

-- ---- all is kept, and taken back

-- all kept cells, and none after them
pub all_free : (kept fresh : List FreeCell) → fresh ≡ [] → free_now kept (length kept) fresh ≡ kept
all_free kept fresh none = ap (λ xs. take (length kept) kept ++ xs) none ∙ append-nil (take (length kept) kept) ∙ take_all (length kept) kept (omega arith)

pub kept_sound : (table : List ℕ) (pages : ℕ) (kept : List FreeCell) (live : ℕ) (fresh kept_now fresh_now : List FreeCell) (room was now : ℕ) → IsSound table pages kept live fresh room was
    → kept_now ≡ free_now kept live fresh → fresh_now ≡ [] → now ≡ was → IsSound table (length table) kept_now (length kept_now) fresh_now room now
kept_sound table pages kept live fresh kept_now fresh_now room was now sound is none same = record {
  within = omega arith;
  among = omega arith;
  apart = subst (IsDistinct same_cell) (sym (all_free kept_now fresh_now none ∙ is)) sound.apart;
  kept_apart = subst (IsDistinct same_cell) (sym is) sound.apart;
  enough = sound.enough;
  fresh_enough = omega (arith, sound.fresh_enough, same);
  fits = omega (arith, sound.fits, ap length is, free_count table pages kept live room fresh was sound, ap length none);
}

pub back_sound : (table : List ℕ) (pages : ℕ) (kept : List FreeCell) (live : ℕ) (fresh fresh_now : List FreeCell) (room was now : ℕ) → IsSound table pages kept live fresh room was
    → length kept ≤ room → fresh_now ≡ [] → now ≡ was → IsSound (take pages table) pages kept (length kept) fresh_now room now
back_sound table pages kept live fresh fresh_now room was now sound fits none same = record {
  within = omega (arith, length-take-le pages table sound.within);
  among = omega arith;
  apart = subst (IsDistinct same_cell) (sym (all_free kept fresh_now none)) sound.kept_apart;
  kept_apart = sound.kept_apart;
  enough = omega (arith, sound.enough, sound.within, length-take-le pages table sound.within);
  fresh_enough = omega (arith, sound.fresh_enough, sound.within, length-take-le pages table sound.within, same);
  fits = omega (arith, fits, ap length none);
}

-- nothing is there
pub none_sound : (table : List ℕ) (kept fresh : List FreeCell) (room fresh_room : ℕ) → table ≡ [] → kept ≡ [] → fresh ≡ [] → IsSound table 0 kept 0 fresh room fresh_room
none_sound table kept fresh room fresh_room no_pages no_kept no_fresh = record {
  within = omega arith;
  among = omega arith;
  apart = subst (λ xs. IsDistinct same_cell (free_now kept 0 xs)) (sym no_fresh) none_apart;
  kept_apart = subst (IsDistinct same_cell) (sym no_kept) none_apart;
  enough = omega (arith, ap length no_pages);
  fresh_enough = omega (arith, ap length no_pages);
  fits = omega (arith, ap length no_fresh);
}
