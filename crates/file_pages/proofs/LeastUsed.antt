-- Which of the frames that are not lent was used least recently.
use Rattle.std.proofs.Common.{◌≡◌, ◌≢◌, ◌==◌, ◌||◌, ℕ, Bool, true, false, cond, List, [], ◌∷◌, ◌++◌, Option, refl, sym, ◌∙◌, ap, subst}
use Rattle.std.proofs.lemmas.Bool.{both_ways, eq-eqb, eqb-true, ne_eqb}
use Rattle.std.specs.List.{list_any}
use Rattle.page_cache.specs.domain_base.declared.place.Home.{Home}
use Rattle.page_cache.specs.page_store.Pages.{same_home}
use Rattle.page_cache.specs.page_store.sorted_sets.Homes.{number_of}
use Rattle.page_cache.specs.declared.frame.Frame.{Frame}
use Rattle.page_cache.specs.Frames.{Frames, is_clean, placed, without}
use Rattle.file_pages.specs.Lent.{is_among, used_each, without_homes}
use Rattle.file_pages.proofs.SameHomes.{homes_same, same_itself}

-- whether a number is that of one of these homes
abbrev pub is_of : List Home → ℕ → Bool
is_of homes n = list_any (λ (home : Home). number_of home == n) homes

or_left : (a b : Bool) → a ≡ true → (a || b) ≡ true
or_left true b is = refl
or_left false b is = absurd (both_ways false refl is)

or_right : (a b : Bool) → b ≡ true → (a || b) ≡ true
or_right true b is = refl
or_right false b is = is

-- the number of a home that is among these is that of one of them
number_among : (homes : List Home) (home : Home) → is_among homes home ≡ true → is_of homes (number_of home) ≡ true
number_among [] home is = is
number_among (first ∷ homes) home is = go (same_home home first) refl is (number_among homes home)
  where
    go : (b : Bool) → same_home home first ≡ b → (b || is_among homes home) ≡ true → (is_among homes home ≡ true → is_of homes (number_of home) ≡ true) → is_of (first ∷ homes) (number_of home) ≡ true
    go true same so rest = or_left (number_of first == number_of home) (is_of homes (number_of home)) (eq-eqb (number_of first) (number_of home) (ap number_of (sym (homes_same home first same))))
    go false same so rest = or_right (number_of first == number_of home) (is_of homes (number_of home)) (rest so)

-- a number that no home among these has is not that of one of them
pub free_of : (homes : List Home) (n : ℕ) → ((home : Home) → is_among homes home ≡ true → number_of home ≢ n) → is_of homes n ≡ false
free_of [] n free = refl
free_of (first ∷ homes) n free =
    ap (λ (b : Bool). b || is_of homes n) (ne_eqb (number_of first) n (free first (or_left (same_home first first) (is_among homes first) (same_itself first))))
    ∙ free_of homes n (λ home among. free home (or_right (same_home home first) (is_among homes home) among))

-- it makes no difference to take out one of their numbers first
without_it : (homes : List Home) (n : ℕ) (order : List ℕ) → is_of homes n ≡ true → without_homes homes (without n order) ≡ without_homes homes order
unfolding without_homes
without_it homes n [] is = refl
without_it homes n (m ∷ order) is = go (n == m) refl (without_it homes n order is)
  where
    go : (b : Bool) → (n == m) ≡ b → without_homes homes (without n order) ≡ without_homes homes order → without_homes homes (cond b (without n order) (m ∷ without n order)) ≡ without_homes homes (m ∷ order)
    go true same rest = rest ∙ sym (ap (λ (b : Bool). cond b (without_homes homes order) (m ∷ without_homes homes order)) (subst (λ (k : ℕ). is_of homes k ≡ true) (eqb-true n m same) is))
    go false same rest = ap (λ (l : List ℕ). cond (is_of homes m) l (m ∷ l)) rest

-- nor to use the frame of one of them
used_one : (homes : List Home) (n : ℕ) (frame : Option Frame) (order : List ℕ) → is_of homes n ≡ true → without_homes homes (placed n frame order) ≡ without_homes homes order
unfolding without_homes
used_one homes n frame order is = go (is_clean frame)
  where
    go : (b : Bool) → without_homes homes (cond b (n ∷ without n order) (without n order)) ≡ without_homes homes order
    go true = ap (λ (b : Bool). cond b (without_homes homes (without n order)) (n ∷ without_homes homes (without n order))) is ∙ without_it homes n order is
    go false = without_it homes n order is

used_some : (homes some : List Home) (frames : Frames) (order : List ℕ) → ((home : Home) → is_among some home ≡ true → is_of homes (number_of home) ≡ true) → without_homes homes (used_each frames some order) ≡ without_homes homes order
unfolding used_each
used_some homes [] frames order all = refl
used_some homes (first ∷ some) frames order all =
    used_some homes some frames (placed (number_of first) (frames first) order) (λ home among. all home (or_right (same_home home first) (is_among some home) among))
    ∙ used_one homes (number_of first) (frames first) order (all first (or_left (same_home first first) (is_among some first) (same_itself first)))

-- nor to use the frames of them all
pub used_all : (homes : List Home) (frames : Frames) (order : List ℕ) → without_homes homes (used_each frames homes order) ≡ without_homes homes order
used_all homes frames order = used_some homes homes frames order (number_among homes)

-- a number of none of them stays the last one
pub without_both : (homes : List Home) (n : ℕ) (order : List ℕ) → is_of homes n ≡ false → without_homes homes (order ++ n ∷ []) ≡ without_homes homes order ++ n ∷ []
unfolding without_homes
without_both homes n [] free = ap (λ (b : Bool). cond b [] (n ∷ [])) free
without_both homes n (m ∷ order) free = go (is_of homes m) (without_both homes n order free)
  where
    go : (b : Bool) → without_homes homes (order ++ n ∷ []) ≡ without_homes homes order ++ n ∷ [] → cond b (without_homes homes (order ++ n ∷ [])) (m ∷ without_homes homes (order ++ n ∷ [])) ≡ cond b (without_homes homes order) (m ∷ without_homes homes order) ++ n ∷ []
    go true rest = rest
    go false rest = ap (λ (l : List ℕ). m ∷ l) rest

-- one use more
pub used_one_more : (frames : Frames) (homes : List Home) (one : Home) (order : List ℕ) → used_each frames (homes ++ one ∷ []) order ≡ placed (number_of one) (frames one) (used_each frames homes order)
unfolding used_each
used_one_more frames [] one order = refl
used_one_more frames (first ∷ homes) one order = used_one_more frames homes one (placed (number_of first) (frames first) order)
