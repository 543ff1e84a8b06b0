-- What is left of a tag directory whose pages are given back is one.
use Rattle.std.proofs.Common.{◌≡◌, ◌∙◌, ◌⊎◌, inl, inr, ℕ, zero, suc, ◌+◌, ◌-◌, ◌<◌, ◌||◌, Bool, true, List, [], ◌∷◌, ◌++◌, Option, Some, None, IfSome, IsSomeAnd, Contains, length, length-append, slice_get, refl, sym, ap, subst, arith, append_assoc, ⊎_elim}
use Rattle.std.specs.Option.{option_map}
use Rattle.std.proofs.lemmas.Bool.{cases_Bool, cases_lt, false_from_ne_true, true≢false}
use Rattle.std.proofs.lemmas.List.{append-nil, length-map}
use Rattle.std.proofs.lemmas.Option.{slice_get_past, slice_get_within}
use Rattle.release_list.specs.domain_base.declared.place.Home.{Home}
use Rattle.release_list.specs.domain_base.declared.version.Version.{Version}
use Rattle.release_list.specs.page_store.Pages.{Pages, same_home}
use Rattle.release_list.proofs.OfMetadataCells.Changed.{homes_same}
use Rattle.release_list.specs.tag_dirs.TagPage.{next_of}
use Rattle.release_list.specs.tag_dirs.declared.dir.TagPlace.{TagPlace}
use Rattle.release_list.specs.tag_dirs.Directory.{EndsAt, IsDirectory, IsPageOf, LeadsElsewhere, Unlinks, has_home, home_behind}
use Rattle.release_list.specs.free_cells.Cells.{table_of}
use Rattle.release_list.proofs.OfFilesetFiles.Tags.{directory_same, pages_same}
use Rattle.release_list.specs.Listing.{Listing}
use Rattle.release_list.specs.Steps.{GivesTagPage, IsWell, Now, Step, Steps, file_ends, last_home, more, none, pages_go, quota_goes, reading_ends, tag_page_goes, trim_ends}
use Rattle.release_steps.specs.Links.{IsLeft, homes_of}
use Rattle.release_steps.proofs.Linked.{get_home}
use Rattle.release_steps.proofs.Wells.{well_step}

-- ---- lists of places

some_one : {X : Type 0} (a b : X) → Some a ≡ Some b → a ≡ b
some_one a b e = cc

none_some : {X : Type 0} (b : X) → None ≡ Some b → ⊥
none_some b e = cc

place_start : (xs ys : List TagPlace) (k : ℕ) → k < length xs → slice_get (xs ++ ys) k ≡ slice_get xs k
place_start [] ys k within = absurd (omega (arith, within))
place_start (x ∷ xs) ys zero within = refl
place_start (x ∷ xs) ys (suc k) within = place_start xs ys k (omega (arith, within))

place_end : (xs : List TagPlace) (y : TagPlace) → slice_get (xs ++ y ∷ []) (length xs) ≡ Some y
place_end [] y = refl
place_end (x ∷ xs) y = place_end xs y

listed : (places : List TagPlace) (h : Home) → has_home places h ≡ true → Contains (homes_of places) h
listed [] h has = absurd (true≢false (sym has))
listed (p ∷ ps) h has = ⊎_elim
    (λ same. (0, omega arith, sym (homes_same h p.home same)))
    (λ other. let rest = listed ps h (sym (ap (λ (b : Bool). b || has_home ps h) other) ∙ has) in (suc rest.0, omega (arith, rest.1), rest.2))
    (cases_Bool (same_home h p.home))

-- the places before the one whose home is the last
record IsSplit (places : List TagPlace) (front : List Home) (home : Home) : Type 0 where
  rest : List TagPlace
  last : TagPlace
  is : places ≡ rest ++ last ∷ []
  homes : homes_of rest ≡ front
  stands : last.home ≡ home

tail_of : {X : Type 0} (a b : X) (xs ys : List X) → a ∷ xs ≡ b ∷ ys → xs ≡ ys
tail_of a b xs ys e = cc

head_of : {X : Type 0} (a b : X) (xs ys : List X) → a ∷ xs ≡ b ∷ ys → a ≡ b
head_of a b xs ys e = cc

nothing_there : {X : Type 0} (y : X) (ys : List X) → [] ≡ y ∷ ys → ⊥
nothing_there y ys e = cc

split : (places : List TagPlace) (front : List Home) (home : Home) → homes_of places ≡ front ++ home ∷ [] → IsSplit places front home
split [] [] home same = absurd (nothing_there home [] same)
split [] (f ∷ front) home same = absurd (nothing_there f (front ++ home ∷ []) same)
split (p ∷ []) [] home same = record { rest = []; last = p; is = refl; homes = refl; stands = head_of p.home home [] [] same }
split (p ∷ q ∷ ps) [] home same = absurd (nothing_there q.home (homes_of ps) (sym (tail_of p.home home (q.home ∷ homes_of ps) [] same)))
split (p ∷ ps) (f ∷ front) home same =
    let s = split ps front home (tail_of p.home f (homes_of ps) (front ++ home ∷ []) same) in
    record {
      rest = p ∷ s.rest;
      last = s.last;
      is = ap (λ (xs : List TagPlace). p ∷ xs) s.is;
      homes = λ i. head_of p.home f (homes_of ps) (front ++ home ∷ []) same i ∷ s.homes i;
      stands = s.stands;
    }

-- the last home of some places
last_of : (places : List TagPlace) (q : TagPlace) (k : ℕ) → slice_get places k ≡ Some q → k + 1 ≡ length places → last_home (homes_of places) ≡ Some q.home
last_of places q k at end =
    let long = length-map places (λ (p : TagPlace). p.home) in
    let here : length (homes_of places) - 1 ≡ k = omega (arith, end, long) in
    ap (slice_get (homes_of places)) here ∙ get_home places k ∙ ap (option_map (λ (p : TagPlace). p.home)) at

-- and the place that it is of
record IsLastOf (places : List TagPlace) (f : Home) : Type 0 where
  k : ℕ
  q : TagPlace
  at : slice_get places k ≡ Some q
  end : k + 1 ≡ length places
  stands : q.home ≡ f

place_of_last : (places : List TagPlace) (f : Home) → last_home (homes_of places) ≡ Some f → IsLastOf places f
place_of_last places f is = by_place (slice_get places (length (homes_of places) - 1)) refl (sym (get_home places (length (homes_of places) - 1)) ∙ is)
  where
    by_place : (o : Option TagPlace) → slice_get places (length (homes_of places) - 1) ≡ o → option_map (λ (p : TagPlace). p.home) o ≡ Some f → IsLastOf places f
    by_place None at said = absurd (none_some f said)
    by_place (Some q) at said =
        let within = slice_get_within places (length (homes_of places) - 1) q at in
        let long = length-map places (λ (p : TagPlace). p.home) in
        record { k = length (homes_of places) - 1; q = q; at = at; end = omega (arith, within, long); stands = some_one q.home f said }

and_if : (o : Option (List ℕ)) (P Q : List ℕ → Type 0) → IsSomeAnd o P → IfSome o Q → (page : List ℕ) × (o ≡ Some page) × P page × Q page
and_if None P Q is other = absurd is
and_if (Some page) P Q is other = (page, refl, is, other)

there_and : (o : Option (List ℕ)) (P : List ℕ → Type 0) → IsSomeAnd o P → (page : List ℕ) → o ≡ Some page → P page
there_and o P is page at = subst (λ x. IsSomeAnd x P) at is

-- ---- a directory without its last page

module _ (old new : Pages) (home : Home) (x : TagPlace) (xs : List TagPlace) (last : TagPlace) (dir : IsDirectory old ((x ∷ xs) ++ last ∷ [])) (stands : last.home ≡ home) (unlinks : Unlinks (last_home (homes_of (x ∷ xs))) home old new) where
  abbrev rest : List TagPlace
  rest = x ∷ xs

  abbrev all : List TagPlace
  all = (x ∷ xs) ++ last ∷ []

  at_all : (k : ℕ) (q : TagPlace) → slice_get rest k ≡ Some q → slice_get all k ≡ Some q
  at_all k q at = place_start rest (last ∷ []) k (slice_get_within rest k q at) ∙ at

  was : (k : ℕ) (q : TagPlace) → slice_get rest k ≡ Some q → IsSomeAnd (old q.home) (IsPageOf q (home_behind all k))
  was k q at = subst (λ o. IfSome o (λ place. IsSomeAnd (old place.home) (IsPageOf place (home_behind all k)))) (at_all k q at) (dir.run k)

  -- two places with one home are one
  one_place : (j k : ℕ) (p q : TagPlace) → slice_get rest j ≡ Some p → slice_get rest k ≡ Some q → p.home ≡ q.home → j ≡ k
  one_place j k p q at_j at_k same = by_page (old p.home) refl (was j p at_j)
    where
      by_page : (o : Option (List ℕ)) → old p.home ≡ o → IsSomeAnd o (IsPageOf p (home_behind all j)) → j ≡ k
      by_page None there is = absurd is
      by_page (Some page) there is =
          let other = there_and (old q.home) (IsPageOf q (home_behind all k)) (was k q at_k) page (sym (ap old same) ∙ there) in
          dir.apart j k p q (at_all j p at_j) (at_all k q at_k) (sym is.indexed ∙ other.indexed)

  -- one before the last stays
  in_front : (k : ℕ) (q : TagPlace) → slice_get rest k ≡ Some q → k + 1 < length rest → IsSomeAnd (new q.home) (IsPageOf q (home_behind rest k))
  in_front k q at less =
      let next : home_behind all k ≡ home_behind rest k = ap (option_map (λ (p : TagPlace). p.home)) (place_start rest (last ∷ []) (k + 1) less) in
      subst (λ o. IsSomeAnd o (IsPageOf q (home_behind rest k))) (sym same_page) (subst (λ n. IsSomeAnd (old q.home) (IsPageOf q n)) next (was k q at))
    where
      by_front : (o : Option Home) → last_home (homes_of rest) ≡ o → Unlinks o home old new → new q.home ≡ old q.home
      by_front None is same = ap (λ (ps : Pages). ps q.home) same
      by_front (Some f) is unlinks = ⊎_elim
          (λ ends. ends.elsewhere q.home (false_from_ne_true (same_home q.home f) (λ same.
          let l = place_of_last rest f is in
          let one = one_place k l.k q l.q at l.at (homes_same q.home f same ∙ sym l.stands) in
          let end = l.end in
          omega (arith, one, end, less))))
          (λ e. ap (λ (ps : Pages). ps q.home) e.same)
          unlinks

      same_page : new q.home ≡ old q.home
      same_page = by_front (last_home (homes_of rest)) refl unlinks

  -- the last one leads to none
  at_end : (k : ℕ) (q : TagPlace) → slice_get rest k ≡ Some q → k + 1 ≡ length rest → IsSomeAnd (new q.home) (IsPageOf q (home_behind rest k))
  at_end k q at end = ⊎_elim ended other (subst (λ o. Unlinks o home old new) (last_of rest q k at end) unlinks)
    where
      behind : home_behind all k ≡ Some home
      behind = ap (λ n. option_map (λ (p : TagPlace). p.home) (slice_get all n)) end ∙ ap (option_map (λ (p : TagPlace). p.home)) (place_end rest last) ∙ ap Some stands

      nothing : None ≡ home_behind rest k
      nothing = sym (ap (option_map (λ (p : TagPlace). p.home)) (slice_get_past rest (k + 1) (omega (arith, end))))

      ended : EndsAt q.home home old new → IsSomeAnd (new q.home) (IsPageOf q (home_behind rest k))
      ended ends =
          let page = there_and (old q.home) (IsPageOf q (home_behind all k)) (was k q at) ends.page ends.was in
          subst (λ o. IsSomeAnd o (IsPageOf q (home_behind rest k))) (sym ends.is)
          (record { good = ends.change.good page.good; indexed = ends.change.index ∙ page.indexed; linked = ends.change.next ∙ nothing })

      other : LeadsElsewhere q.home home old new → IsSomeAnd (new q.home) (IsPageOf q (home_behind rest k))
      other e =
          let both = and_if (old q.home) (IsPageOf q (home_behind all k)) (λ page. ¬ next_of page ≡ Some home) (was k q at) e.other in
          absurd (both.3 (both.2.linked ∙ behind))

  pub without_last : IsDirectory new rest
  without_last = record {
    run = λ k. by_place k (slice_get rest k) refl;
    apart = λ j k p q at_j at_k same. dir.apart j k p q (at_all j p at_j) (at_all k q at_k) same;
    first = dir.first;
  }
    where
      by_place : (k : ℕ) (o : Option TagPlace) → slice_get rest k ≡ o → IfSome o (λ place. IsSomeAnd (new place.home) (IsPageOf place (home_behind rest k)))
      by_place k None at = tt
      by_place k (Some q) at =
          let within = slice_get_within rest k q at in
          ⊎_elim (in_front k q at) (λ not_less. at_end k q at (omega (arith, within, not_less))) (cases_lt (k + 1) (length rest))

front_left : (old new : Pages) (home : Home) (rest : List TagPlace) (last : TagPlace) → IsDirectory old (rest ++ last ∷ []) → last.home ≡ home → Unlinks (last_home (homes_of rest)) home old new → (rest ≡ []) ⊎ IsDirectory new rest
front_left old new home [] last dir stands unlinks = inl refl
front_left old new home (x ∷ xs) last dir stands unlinks = inr (without_last old new home x xs last dir stands unlinks)

-- ---- one step

module _ (group : ℕ) (version : Version) (old new : Now) (well : IsWell old) (places : List TagPlace) (k : IsLeft places old) where
  kept : new.list.tag_pages ≡ old.list.tag_pages → ((h : Home) → ¬ Contains (table_of new.cells h.vol) h.page → new.pages h ≡ old.pages h) → IsWell new → IsLeft places new
  kept same stays well_now = record {
    left = k.left;
    gone = k.gone;
    is = k.is;
    listed = k.listed ∙ sym same;
    directory = ⊎_elim
        (λ empty. inl empty)
        (λ dir. inr (directory_same old.pages new.pages k.left dir (pages_same old.pages new.pages k.left (λ h has.
        stays h (well_now.listed.pages_held h (subst (λ (hs : List Home). Contains hs h) (k.listed ∙ sym same) (listed k.left h has))).off_table))))
        k.directory;
  }

  given : GivesTagPage group old new → IsLeft places new
  given s =
      let cut = split k.left s.takes.front s.takes.home (k.listed ∙ s.takes.last) in
      record {
        left = cut.rest;
        gone = cut.last ∷ k.gone;
        is = k.is ∙ ap (λ (ps : List TagPlace). ps ++ k.gone) cut.is ∙ append_assoc cut.rest (cut.last ∷ []) k.gone;
        listed = cut.homes ∙ sym (ap (λ (l : Listing). l.tag_pages) s.takes.is);
        directory = ⊎_elim
            (λ empty. absurd (let n = ap length (sym cut.is ∙ empty) in omega (arith, n, length-append cut.rest (cut.last ∷ []))))
            (λ dir. front_left old.pages new.pages s.takes.home cut.rest cut.last (subst (IsDirectory old.pages) cut.is dir) cut.stands
            (subst (λ (hs : List Home). Unlinks (last_home hs) s.takes.home old.pages new.pages) (sym cut.homes) s.takes.unlinks))
            k.directory;
      }

  left_step : Step group version old new → IsLeft places new
  left_step (pages_go s) = kept (ap (λ (l : Listing). l.tag_pages) s.same_list) s.elsewhere (well_step group version old new well (pages_go s))
  left_step (quota_goes s) = kept (ap (λ (l : Listing). l.tag_pages) s.same_list) s.elsewhere (well_step group version old new well (quota_goes s))
  left_step (trim_ends s) = kept (ap (λ (l : Listing). l.tag_pages) s.list) s.elsewhere (well_step group version old new well (trim_ends s))
  left_step (reading_ends s) = kept (ap (λ (l : Listing). l.tag_pages) s.list) s.elsewhere (well_step group version old new well (reading_ends s))
  left_step (file_ends s) = kept (ap (λ (l : Listing). l.tag_pages) s.list) s.elsewhere (well_step group version old new well (file_ends s))
  left_step (tag_page_goes s) = given s

-- ---- any number

record LeftStill (places : List TagPlace) (now : Now) : Type 0 where
  well : IsWell now
  left : IsLeft places now

left_still : (group : ℕ) (version : Version) (first : Now) (count : ℕ) (last : Now) → IsWell first → Steps group version first count last → (places : List TagPlace) → IsLeft places first → LeftStill places last
left_still group version first count last well steps places left =
    elim steps as (λ count last steps. LeftStill places last) [
      | none ↦ record { well = well; left = left }
      | more n between last (steps → was) step ↦ record {
        well = well_step group version between last was.well step;
        left = left_step group version between last was.well places was.left step;
      }
    ]

pub directory_left : (group : ℕ) (version : Version) (first : Now) (count : ℕ) (last : Now) → IsWell first → Steps group version first count last → (places : List TagPlace) → homes_of places ≡ first.list.tag_pages → IsDirectory first.pages places → IsLeft places last
directory_left group version first count last well steps places listed dir =
    (left_still group version first count last well steps places (record { left = places; gone = []; is = sym (append-nil places); listed = listed; directory = inr dir })).left
