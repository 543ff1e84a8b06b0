-- A change joined image by image.
use Rattle.std.proofs.Common.{◌≡◌, ◌||◌, ℕ, zero, suc, ◌+◌, ◌<◌, ◌≤◌, Bool, true, false, cond, List, [], ◌∷◌, ◌++◌, length, get_or, take, refl, sym, ◌∙◌, ap, subst, arith}
use Rattle.std.proofs.lemmas.Bool.{or_parts}
use Rattle.std.proofs.lemmas.List.{take_more}
use Rattle.std.specs.List.{list_any}
use Rattle.log_ring.specs.domain_base.declared.place.Home.{Home}
use Rattle.log_ring.specs.page_store.Pages.{same_home}
use Rattle.log_ring.specs.Images.{AreDistinctHomes, homes_of, joined, with_image}
use Rattle.log_ring.specs.declared.image.PageImage.{PageImage}
use Rattle.log_ring.proofs.Overlays.{JoinsWell-joined, has-with_image, length-with_image}
use Rattle.log_ring.proofs.SameHomes.{other_swapped}

-- one change after another
pub joined-append : (first second pending : List PageImage) → joined (first ++ second) pending ≡ joined second (joined first pending)
joined-append [] second pending = refl
joined-append (image ∷ first) second pending = joined-append first second (with_image image.home image.page pending)

-- one image more
pub joined_more : (change pending : List PageImage) (i : ℕ) (image : PageImage) → i < length change → image ≡ get_or change i image → joined (take (i + 1) change) pending ≡ with_image image.home image.page (joined (take i change) pending)
joined_more change pending i image lt is =
    ap (λ (l : List PageImage). joined l pending) (take_more change i image lt ∙ ap (λ (x : PageImage). take i change ++ x ∷ []) (sym is))
    ∙ joined-append (take i change) (image ∷ []) pending

-- a part of a change makes it no longer than all of it
pub joined-shorter : (change pending : List PageImage) (i : ℕ) → length (joined (take i change) pending) ≤ length (joined change pending)
joined-shorter change pending zero = (JoinsWell-joined change pending).longer
joined-shorter [] pending (suc i) = omega arith
joined-shorter (image ∷ change) pending (suc i) = joined-shorter change (with_image image.home image.page pending) i

-- Which homes there are once a change is joined.

abbrev has : Home → List PageImage → Bool
has home images = list_any (same_home home) (homes_of images)

or_assoc : (a b c : Bool) → ((a || b) || c) ≡ (a || (b || c))
or_assoc true b c = refl
or_assoc false b c = refl

or_swap : (a b : Bool) → (a || b) ≡ (b || a)
or_swap true true = refl
or_swap true false = refl
or_swap false true = refl
or_swap false false = refl

pub has-joined : (home : Home) (change pending : List PageImage) → has home (joined change pending) ≡ (has home change || has home pending)
has-joined home [] pending = refl
has-joined home (image ∷ change) pending =
    has-joined home change (with_image image.home image.page pending)
    ∙ ap (λ (b : Bool). has home change || b) (has-with_image image.home image.page home pending ∙ or_swap (has home pending) (same_home home image.home))
    ∙ sym (or_assoc (has home change) (same_home home image.home) (has home pending))
    ∙ ap (λ (b : Bool). b || has home pending) (or_swap (has home change) (same_home home image.home))

not_among : (home : Home) (images : List PageImage) (i : ℕ) (d : PageImage) → i < length images → has home images ≡ false → same_home home (get_or images i d).home ≡ false
not_among home [] i d lt none = absurd (omega arith)
not_among home (image ∷ images) zero d lt none = (or_parts (same_home home image.home) (has home images) none).0
not_among home (image ∷ images) (suc i) d lt none = not_among home images i d (omega arith) (or_parts (same_home home image.home) (has home images) none).1

-- where its homes are distinct, an image of a change has a home that none before it has
pub not_before : (change : List PageImage) (i : ℕ) (d : PageImage) → i < length change → AreDistinctHomes change → has (get_or change i d).home (take i change) ≡ false
not_before [] i d lt distinct = absurd (omega arith)
not_before (image ∷ change) zero d lt distinct = refl
not_before (image ∷ change) (suc i) d lt distinct =
    let rest = not_before change i d (omega arith) distinct.1 in
    let other : same_home (get_or change i d).home image.home ≡ false = other_swapped image.home (get_or change i d).home (not_among image.home change i d (omega arith) distinct.0) in
    rw (other, rest) refl

-- one image more is counted where what is pending has not its home
pub counted_more : (change pending : List PageImage) (i : ℕ) (image : PageImage) → i < length change → image ≡ get_or change i image → AreDistinctHomes change
    → length (joined (take (i + 1) change) pending) ≡ cond (has image.home pending) (length (joined (take i change) pending)) (length (joined (take i change) pending) + 1)
counted_more change pending i image lt is distinct =
    let so_far = joined (take i change) pending in
    let none : has image.home (take i change) ≡ false = subst (λ (x : PageImage). has x.home (take i change) ≡ false) (sym is) (not_before change i image lt distinct) in
    let has_it : has image.home so_far ≡ has image.home pending = has-joined image.home (take i change) pending ∙ ap (λ (b : Bool). b || has image.home pending) none in
    ap (λ (l : List PageImage). length l) (joined_more change pending i image lt is)
    ∙ length-with_image image.home image.page so_far
    ∙ ap (λ (b : Bool). cond b (length so_far) (length so_far + 1)) has_it
