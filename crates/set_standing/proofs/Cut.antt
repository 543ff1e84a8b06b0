-- A file that is cut to a size.
use Rattle.std.proofs.Common.{◌≡◌, ◌∙◌, ℕ, ◌*◌, ◌<◌, ◌≤◌, true, false, cond, Option, Some, None, nat_lt, refl, sym, ap, arith, ⊎_elim}
use Rattle.std.proofs.lemmas.Bool.{cases_lt, lt-ltb, le-ltb}
use Rattle.std.specs.FinMap.{get, retain_keys, get-retain_keys, nat_cmp-IsAntisymmetric}
use Rattle.std.specs.Option.{option_map}
use Rattle.standing_laws.specs.extent_maps.declared.run.PagePlace.{PagePlace}
use Rattle.standing_laws.specs.extent_maps.declared.run.PagePlace.TheVariants.{Absent, At, Hole}
use Rattle.standing_laws.specs.extent_maps.Runs.{home_at}
use Rattle.standing_laws.specs.fileset_files.State.{FileState}
use Rattle.standing_laws.specs.fileset_files.Truncation.{HasPageWithin, pages_in}
use Rattle.standing_laws.specs.fileset_files.States.{IsStaleFrom, cut}
use Rattle.standing_laws.specs.fileset_model.Pages.{Pages}
use Rattle.standing_laws.specs.fileset_model.declared.node.Node.{Node}
use Rattle.standing_laws.specs.fileset_model.declared.node.Node.TheVariants.{Directory, File}
use Rattle.standing_laws.specs.domain_layout.Filled.{Contents, IsFilled}
use Rattle.set_standing.specs.Nodes.{cut_to, seen_of}

-- ---- the pages in front of the end

begins_within : (size q : ℕ) → q < pages_in size → nat_lt (q * 8192) size ≡ true
begins_within size q within = lt-ltb (q * 8192) size (omega arith)

begins_past : (size q : ℕ) → pages_in size ≤ q → nat_lt (q * 8192) size ≡ false
begins_past size q past = le-ltb (q * 8192) size (omega arith)

pub get-cut : (size : ℕ) (pages : Pages) (q : ℕ) → get (retain_keys pages (λ p. nat_lt (p * 8192) size)) q ≡ cond (nat_lt (q * 8192) size) (get pages q) None
get-cut size pages q =
    get-retain_keys pages (λ p. nat_lt (p * 8192) size) q (λ x tie. sym (ap (λ p. nat_lt (p * 8192) size) (nat_cmp-IsAntisymmetric q x tie)))

-- ---- the homes of those that it keeps

no_page : (place : PagePlace) → (¬ place ≡ Absent → ⊥) → home_at place ≡ None
no_page Absent gone = refl
no_page Hole gone = refl
no_page (At home) gone = absurd (gone (λ is. cc))

module _ (contents : Contents) (state : FileState) (size : ℕ) (pages : Pages) (was : (q : ℕ) → get pages q ≡ option_map contents ((seen_of state).homes q)) where
  none_past : ¬ HasPageWithin (pages_in size) state.keep state.places → (q : ℕ) → pages_in size ≤ q → (seen_of state).homes q ≡ None
  none_past none q past = ⊎_elim
      (λ kept. (λ i. home_at (cond (lt-ltb q state.keep kept i) (state.places q) Absent))
      ∙ no_page (state.places q) (λ there. none (record { page = q; begins = past; ends = kept; there = there })))
      (λ beyond. (λ i. home_at (cond (le-ltb q state.keep beyond i) (state.places q) Absent))) (cases_lt q state.keep)

  each_kept : (keep : Option ℕ) → IsStaleFrom size state keep → (q : ℕ) →
      get (retain_keys pages (λ p. nat_lt (p * 8192) size)) q ≡ option_map contents ((seen_of (cut size keep state)).homes q)
  each_kept None none q = get-cut size pages q ∙ ⊎_elim
      (λ within. (λ i. cond (begins_within size q within i) (get pages q) None) ∙ was q)
      (λ past. (λ i. cond (begins_past size q past i) (get pages q) None) ∙ sym (ap (option_map contents) (none_past none q past))) (cases_lt q (pages_in size))
  each_kept (Some from) stale q = get-cut size pages q ∙ ⊎_elim
      (λ within.
      let below : q < from = omega (arith, stale.0) in
      let kept : q < state.keep = omega (arith, stale.0, stale.1.begins, stale.1.ends) in
      (λ i. cond (begins_within size q within i) (get pages q) None) ∙ was q
      ∙ (λ i. option_map contents (home_at (cond (lt-ltb q state.keep kept i) (state.places q) Absent)))
      ∙ sym (λ i. option_map contents (home_at (cond (lt-ltb q from below i) (state.places q) Absent))))
      (λ past.
      let beyond : from ≤ q = omega (arith, stale.0) in
      (λ i. cond (begins_past size q past i) (get pages q) None)
      ∙ sym (λ i. option_map contents (home_at (cond (le-ltb q from beyond i) (state.places q) Absent)))) (cases_lt q (pages_in size))

pub cut_is : (contents : Contents) (state : FileState) (size : ℕ) (keep : Option ℕ) (node : Node) → IsStaleFrom size state keep → IsFilled contents (seen_of state) node →
    IsFilled contents (seen_of (cut size keep state)) (cut_to size node)
cut_is contents state size None (File uid gid old logged pages) stale was = (was.0, was.1, was.2, refl, was.4, each_kept contents state size pages was.5 None stale)
cut_is contents state size (Some from) (File uid gid old logged pages) stale was = (was.0, was.1, was.2, refl, was.4, each_kept contents state size pages was.5 (Some from) stale)
cut_is contents state size None (Directory uid gid) stale was = was
cut_is contents state size (Some from) (Directory uid gid) stale was = was
