-- An index that loses all its pages, the first one first.
use Rattle.std.proofs.Common.{◌≡◌, ◌∙◌, ℕ, zero, suc, ◌+◌, ◌≤◌, Bool, true, false, cond, nat_eq, Option, Some, None, IfSome, List, [], ◌∷◌, length, refl, sym, ap, subst, arith}
use Rattle.std.specs.Prelude.{Contains}
use Rattle.std.specs.Option.{option_and_then}
use Rattle.file_release.specs.domain_base.declared.place.Home.{Home}
use Rattle.file_release.specs.page_store.Pages.{Pages, same_home}
use Rattle.file_release.specs.cell_records.Fields.{number_at}
use Rattle.file_release.proofs.OfMetadataCells.Changed.{homes_same, same_itself}
use Rattle.file_release.specs.tag_dirs.TagPage.{next_of}
use Rattle.file_release.specs.free_space.VolumeSpace.{with_waiting}
use Rattle.file_release.specs.free_space.declared.waiting.PageUse.TheVariants.{Metadata}
use Rattle.file_release.specs.free_space.Spaces.{IsHeld, Spaces, change_volume}
use Rattle.file_release.proofs.Given.{held_given}
use Rattle.index_pages.specs.Changes.{AreHeld, DropsIndex, DropsIndexPage, with_waiting_at}
use Rattle.index_pages.specs.Homes.{AreIndexHomes, next_at}
use Rattle.index_pages.proofs.Homes.{first_once, head_there, one_list, tail_there}

-- ---- the homes of an index stand on volumes that there may be

abbrev home_by : List ℕ → Home
home_by page = record { vol = number_at 4 8 page; page = number_at 4 12 page }

next_low : (pages : Pages) (home : Home) → IfSome (next_at pages home) (λ h. 1 ≤ h.vol)
next_low pages home = by_page (pages home)
  where
    by_number : (page : List ℕ) (b : Bool) → nat_eq (number_at 4 8 page) 0 ≡ b → IfSome (cond b None (Some (home_by page))) (λ h. 1 ≤ h.vol)
    by_number page true none = tt
    by_number page false some = from (number_at 4 8 page) some
      where
        from : (n : ℕ) → nat_eq n 0 ≡ false → 1 ≤ n
        from zero is = absurd (true_false is)
          where
            true_false : true ≡ false → ⊥
            true_false e = cc
        from (suc n) is = omega arith

    by_page : (o : Option (List ℕ)) → IfSome (option_and_then next_of o) (λ h. 1 ≤ h.vol)
    by_page None = tt
    by_page (Some page) = by_number page (nat_eq (number_at 4 8 page) 0) refl

pub low_from : (pages : Pages) (first : Option Home) (homes : List Home) → AreIndexHomes pages first homes → IfSome first (λ h. 1 ≤ h.vol) → (home : Home) → Contains homes home → 1 ≤ home.vol
low_from pages first [] are low home inside = absurd (omega (arith, inside.1))
low_from pages None (x ∷ more) are low home inside = absurd are
low_from pages (Some first) (x ∷ more) are low home (zero, within, is) = subst (λ (h : Home). 1 ≤ h.vol) (are.0 ∙ is) low
low_from pages (Some first) (x ∷ more) are low home (suc k, within, is) = low_from pages (next_at pages x) more are.2 (next_low pages x) home (k, omega (arith, within), is)

pub only : (home other : Home) → Contains (home ∷ []) other → home ≡ other
only home other (zero, within, is) = is
only home other (suc k, within, is) = absurd (omega (arith, within))

-- another page is held still
pub held_beside : (group : ℕ) (space : Spaces) (home other : Home) → 1 ≤ home.vol → 1 ≤ other.vol → ¬ home ≡ other → IsHeld space other.vol other.page
    → IsHeld (change_volume (with_waiting (record { page = home.page; kind = Metadata; group = group })) space home.vol) other.vol other.page
held_beside group space home other low low_other apart held =
    held_given Metadata group (home ∷ []) space other (λ x inside. subst (λ (h : Home). 1 ≤ h.vol) (only home x inside) low) low_other (λ inside. apart (only home other inside)) held

-- ---- this number of pages has gone

pub record IsLeft (group : ℕ) (space space_now : Spaces) (old new : Pages) (count : ℕ) (home : Option Home) (homes : List Home) : Type 0 where
  pub rest : List Home
  pub are : AreIndexHomes new home rest
  pub held : AreHeld space_now rest
  pub waits : with_waiting_at rest group space_now ≡ with_waiting_at homes group space
  pub within : (h : Home) → Contains rest h → Contains homes h
  pub gone : (h : Home) → Contains homes h → ¬ Contains rest h → new h ≡ None
  pub others : (h : Home) → ¬ Contains homes h → new h ≡ old h
  pub long : length rest + count ≡ length homes

-- so it is for each list of homes that there is
abbrev pub AreLeft : Home → ℕ → Spaces → Spaces → Pages → Pages → ℕ → Option Home → Type 0
AreLeft first group space space_now old new count home = (homes : List Home) → AreIndexHomes old (Some first) homes → AreHeld space homes → IsLeft group space space_now old new count home homes

pub none_gone : (first : Home) (group : ℕ) (space : Spaces) (old : Pages) → AreLeft first group space space old old 0 (Some first)
none_gone first group space old homes are held = record {
  rest = homes;
  are = are;
  held = held;
  waits = refl;
  within = λ h inside. inside;
  gone = λ h inside off. absurd (off inside);
  others = λ h off. refl;
  long = omega arith;
}

-- what is not the first one of a list is after it
in_tail : (here : Home) (more : List Home) (h : Home) → same_home h here ≡ false → Contains (here ∷ more) h → Contains more h
in_tail here more h off (zero, within, is) = absurd (true_false (sym (same_itself h) ∙ sym (ap (same_home h) is) ∙ off))
  where
    true_false : true ≡ false → ⊥
    true_false e = cc
in_tail here more h off (suc k, within, is) = (k, omega (arith, within), is)

starts_with : (pages : Pages) (here : Home) (rest : List Home) → AreIndexHomes pages (Some here) rest → Contains rest here
starts_with pages here [] are = absurd are
starts_with pages here (x ∷ more) are = subst (Contains (x ∷ more)) (sym are.0) (head_there x more)

module _ (first : Home) (group : ℕ) (space between after : Spaces) (old mid new : Pages) (count : ℕ) (here : Home) (next : Option Home) (low : 1 ≤ first.vol) (homes : List Home) (are : AreIndexHomes old (Some first) homes)
    (left : IsLeft group space between old mid count (Some here) homes) where
  low_home : (h : Home) → Contains homes h → 1 ≤ h.vol
  low_home = low_from old (Some first) homes are low

  is_one : Contains homes here
  is_one = left.within here (starts_with mid here left.rest left.are)

  pub held_here : IsHeld between here.vol here.page
  held_here = left.held here (starts_with mid here left.rest left.are)

  pub one_gone : DropsIndexPage here next mid new left.rest → after ≡ change_volume (with_waiting (record { page = here.page; kind = Metadata; group = group })) between here.vol → IsLeft group space after old new (count + 1) next homes
  one_gone gone waits = record {
    rest = gone.more;
    are = gone.are;
    held = λ h inside. subst (λ (s : Spaces). IsHeld s h.vol h.page) (sym waits)
        (held_beside group between here h (low_home here is_one) (low_home h (left.within h (in_rest h inside))) (λ e. again (subst (Contains gone.more) (sym e) inside)) (left.held h (in_rest h inside)));
    waits = ap (with_waiting_at gone.more group) waits ∙ ap (λ hs. with_waiting_at hs group between) (sym gone.was) ∙ left.waits;
    within = λ h inside. left.within h (in_rest h inside);
    gone = λ h inside off. gone_now h inside off (same_home h here) refl;
    others = λ h off. gone.others h (other h off) ∙ left.others h off;
    long = omega (arith, left.long, ap (λ (hs : List Home). length hs) gone.was);
  }
    where
      in_rest : (h : Home) → Contains gone.more h → Contains left.rest h
      in_rest h inside = subst (λ (hs : List Home). Contains hs h) (sym gone.was) (tail_there here gone.more h inside)

      again : ¬ Contains gone.more here
      again = first_once mid (Some here) here gone.more (subst (AreIndexHomes mid (Some here)) gone.was left.are)

      gone_now : (h : Home) → Contains homes h → ¬ Contains gone.more h → (b : Bool) → same_home h here ≡ b → new h ≡ None
      gone_now h inside off true is = ap new (homes_same h here is) ∙ gone.gone
      gone_now h inside off false is = gone.others h is ∙ left.gone h inside (λ there. off (in_tail here gone.more h is (subst (λ (hs : List Home). Contains hs h) gone.was there)))

      other : (h : Home) → ¬ Contains homes h → same_home h here ≡ false
      other h off = by_test (same_home h here) refl
        where
          by_test : (b : Bool) → same_home h here ≡ b → b ≡ false
          by_test true is = absurd (off (subst (Contains homes) (sym (homes_same h here is)) is_one))
          by_test false is = refl

pub step_gone : (first : Home) (group : ℕ) (space between after : Spaces) (old mid new : Pages) (count : ℕ) (here : Home) (next : Option Home) → 1 ≤ first.vol → AreLeft first group space between old mid count (Some here)
    → ((homes : List Home) → AreIndexHomes mid (Some here) homes → DropsIndexPage here next mid new homes) → after ≡ change_volume (with_waiting (record { page = here.page; kind = Metadata; group = group })) between here.vol
    → AreLeft first group space after old new (count + 1) next
step_gone first group space between after old mid new count here next low left gone waits homes are held =
    let l = left homes are held in one_gone first group space between after old mid new count here next low homes are l (gone l.rest l.are) waits

none_left : (pages : Pages) (homes : List Home) → AreIndexHomes pages None homes → length homes ≡ 0
none_left pages [] are = refl
none_left pages (x ∷ more) are = absurd are

all_gone : (group : ℕ) (space space_now : Spaces) (old new : Pages) (count : ℕ) (home : Option Home) (homes : List Home) → (left : IsLeft group space space_now old new count home homes) → length left.rest ≡ 0 → DropsIndex group space space_now old new homes
all_gone group space space_now old new count home homes left none = record {
  waits = by_rest left.rest none left.waits;
  gone = λ h inside. left.gone h inside (λ there. absurd (omega (arith, there.1, none)));
  others = left.others;
}
  where
    by_rest : (rest : List Home) → length rest ≡ 0 → with_waiting_at rest group space_now ≡ with_waiting_at homes group space → space_now ≡ with_waiting_at homes group space
    by_rest [] none waits = waits
    by_rest (x ∷ more) none waits = absurd (omega (arith, none))

-- none is left, by the list that is known
module _ (first : Home) (group : ℕ) (space space_now : Spaces) (old new : Pages) (count : ℕ) (known : List Home) (are : AreIndexHomes old (Some first) known) (held : AreHeld space known) (homes : List Home) (are_too : AreIndexHomes old (Some first) homes) where
  same : known ≡ homes
  same = one_list old (Some first) known homes are are_too

  held_too : AreHeld space homes
  held_too = subst (AreHeld space) same held

  pub gone_at_end : AreLeft first group space space_now old new count None → DropsIndex group space space_now old new homes
  gone_at_end left = let l = left homes are_too held_too in all_gone group space space_now old new count None homes l (none_left new l.rest l.are)

  pub gone_by_count : (home : Option Home) → AreLeft first group space space_now old new count home → length homes ≤ count → DropsIndex group space space_now old new homes
  gone_by_count home left most = let l = left homes are_too held_too in all_gone group space space_now old new count home homes l (omega (arith, l.long, most))
