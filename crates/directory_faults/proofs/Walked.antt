-- What is come to from directories on.
use Rattle.std.proofs.Common.{◌≡◌, ◌∙◌, ◌⊎◌, ◌↔◌, inl, inr, zero, suc, ℕ, ◌+◌, ◌<◌, ◌≤◌, List, [], ◌∷◌, ◌++◌, length, Some, None, Vec, Contains, slice_get, refl, sym, ap, subst, arith, ⊎_elim}
use Rattle.std.specs.BTreeMap.{BTreeMap}
use Rattle.std.proofs.lemmas.List.Elements.{Contains-append_cases, Contains-append_left, Contains-append_right}
use Rattle.std.proofs.lemmas.Bool.{cases_lt}
use Rattle.std.proofs.lemmas.Option.{slice_get_within}
use Rattle.fileset_shapes.specs.domain_base.declared.place.Tag.{Tag}
use Rattle.directory_faults.specs.Parents.{HasTag}
use Rattle.directory_faults.proofs.Inserted.{among_at, at_among}
use Rattle.directory_faults.specs.Children.{HasChild}
use Rattle.directory_faults.specs.Walk.{IsAtOrBelow, IsBelow, IsListed, Leads, Notes}
use Rattle.directory_faults.specs.Walk.Leads.{one as leads_one, more as leads_more}
use Rattle.directory_faults.specs.declared.walk.Walk.{Walk}

none_some : {X : Type 0} (x : X) → None ≡ Some x → ⊥
none_some x e = cc

some_same : {X : Type 0} (a b : X) → Some a ≡ Some b → a ≡ b
some_same a b e = cc

front_get : {X : Type 0} (xs ys : List X) (k : ℕ) (x : X) → slice_get xs k ≡ Some x → slice_get (xs ++ ys) k ≡ Some x
front_get [] ys k x at = absurd (none_some x at)
front_get (y ∷ xs) ys zero x at = at
front_get (y ∷ xs) ys (suc k) x at = front_get xs ys k x at

some_at : {X : Type 0} (xs : List X) (k : ℕ) → k < length xs → (x : X) × (slice_get xs k ≡ Some x)
some_at [] k within = absurd (omega (arith, within))
some_at (x ∷ xs) zero within = (x, refl)
some_at (x ∷ xs) (suc k) within = some_at xs k (omega (arith, within))

only_item : {X : Type 0} (one other : X) → Contains (one ∷ []) other → one ≡ other
only_item one other among = by_place (among_at (one ∷ []) other among).0 (among_at (one ∷ []) other among).1
  where
    by_place : (k : ℕ) → slice_get (one ∷ []) k ≡ Some other → one ≡ other
    by_place zero at = some_same one other at
    by_place (suc k) at = absurd (none_some other at)

-- ---- a tag that is noted

module _ (old new : Walk) (tag : Tag) (has : (q : Tag) → HasTag new.seen q ↔ (HasTag old.seen q ⊎ (tag ≡ q))) where
  pub notes_new : new.tags.items ≡ old.tags.items ++ tag ∷ [] → Notes (λ q. tag ≡ q) old new
  notes_new items = record {
    keeps = λ k one at. ap (λ (l : List Tag). slice_get l k) items ∙ front_get old.tags.items (tag ∷ []) k one at;
    has = has;
    listed = λ listed q. (
      λ among. (has q).1 (⊎_elim (λ before. inl ((listed q).0 before)) (λ last. inr (only_item tag q last))
          (Contains-append_cases old.tags.items (tag ∷ []) q (subst (λ (l : List Tag). Contains l q) items among))),
      λ is. subst (λ (l : List Tag). Contains l q) (sym items) (⊎_elim (λ before. Contains-append_left old.tags.items (tag ∷ []) q ((listed q).1 before))
          (λ same. Contains-append_right old.tags.items (tag ∷ []) q (at_among (tag ∷ []) 0 q (ap (λ (t : Tag). Some t) same))) ((has q).0 is)),
    );
  }

  pub notes_known : new.tags.items ≡ old.tags.items → HasTag old.seen tag → Notes (λ q. tag ≡ q) old new
  notes_known items known = record {
    keeps = λ k one at. ap (λ (l : List Tag). slice_get l k) items ∙ at;
    has = has;
    listed = λ listed q. (
      λ among. (has q).1 (inl ((listed q).0 (subst (λ (l : List Tag). Contains l q) items among))),
      λ is. subst (λ (l : List Tag). Contains l q) (sym items) ((listed q).1 (⊎_elim (λ before. before) (λ same. subst (λ (t : Tag). HasTag old.seen t) same known) ((has q).0 is))),
    );
  }

-- ---- more of them

pub notes_both : (P Q R : Tag → Type 0) (old mid new : Walk) → Notes P old mid → Notes Q mid new → ((q : Tag) → R q ↔ (P q ⊎ Q q)) → Notes R old new
notes_both P Q R old mid new first second both = record {
  keeps = λ k one at. second.keeps k one (first.keeps k one at);
  has = λ q. (
    λ is. ⊎_elim (λ before. ⊎_elim (λ start. inl start) (λ p. inr ((both q).1 (inl p))) ((first.has q).0 before)) (λ p. inr ((both q).1 (inr p))) ((second.has q).0 is),
    λ which. ⊎_elim (λ start. (second.has q).1 (inl ((first.has q).1 (inl start))))
        (λ r. ⊎_elim (λ p. (second.has q).1 (inl ((first.has q).1 (inr p)))) (λ p. (second.has q).1 (inr p)) ((both q).0 r)) which,
  );
  listed = λ listed. second.listed (first.listed listed);
}

-- one of the tags in front of a place
abbrev pub InFront : List Tag → ℕ → Tag → Type 0
InFront tags number tag = (k : ℕ) × (k < number) × (slice_get tags k ≡ Some tag)

pub one_more : (tags : List Tag) (number : ℕ) (tag : Tag) → slice_get tags number ≡ Some tag → (q : Tag) → InFront tags (number + 1) q ↔ (InFront tags number q ⊎ (tag ≡ q))
one_more tags number tag at q = (
  λ (k, below, there). by_place k below there,
  λ which. ⊎_elim (λ (k, below, there). (k, omega (arith, below), there)) (λ same. (number, omega arith, at ∙ ap (λ (t : Tag). Some t) same)) which,
)
  where
    by_place : (k : ℕ) → k < number + 1 → slice_get tags k ≡ Some q → InFront tags number q ⊎ (tag ≡ q)
    by_place k below there =
        ⊎_elim (λ low. inl (k, low, there))
        (λ high.
        let here : k ≡ number = omega (arith, below, high) in
        inr (some_same tag q (sym at ∙ ap (slice_get tags) (sym here) ∙ there)))
        (cases_lt k number)

pub notes_all : (tags : List Tag) (number : ℕ) (old new : Walk) → length tags ≤ number → Notes (InFront tags number) old new → Notes (Contains tags) old new
notes_all tags number old new whole notes = record {
  keeps = notes.keeps;
  has = λ q. (
    λ is. ⊎_elim (λ start. inl start) (λ (k, below, there). inr (at_among tags k q there)) ((notes.has q).0 is),
    λ which. (notes.has q).1 (⊎_elim (λ start. inl start) (λ among.
        let at = among_at tags q among in
        let within = slice_get_within tags at.0 q at.1 in
        inr (at.0, omega (arith, within, whole), at.1)) which),
  );
  listed = notes.listed;
}

-- ---- going on

module _ {Z : Type 0} (children : BTreeMap Tag (Vec Tag Z)) where
  -- all that rows of the tags in front of a place lead to is come to, and nothing but what is below
  pub record IsOnTheWay (first walk : Walk) (place : ℕ) : Type 0 where
    pub listed : IsListed walk
    pub had : (q : Tag) → HasTag first.seen q → HasTag walk.seen q
    pub below : (q : Tag) → HasTag walk.seen q → IsAtOrBelow children first q
    pub done : (k : ℕ) (tag q : Tag) → k < place → slice_get walk.tags.items k ≡ Some tag → HasChild children tag q → HasTag walk.seen q

  pub on_further : (first old new : Walk) (place : ℕ) (dir : Tag) → slice_get old.tags.items place ≡ Some dir → Notes (HasChild children dir) old new → IsOnTheWay first old place → IsOnTheWay first new (place + 1)
  on_further first old new place dir at notes on = record {
    listed = notes.listed on.listed;
    had = λ q is. (notes.has q).1 (inl (on.had q is));
    below = λ q is. ⊎_elim (λ before. on.below q before) (λ child. step q child) ((notes.has q).0 is);
    done = λ k tag q below there child. by_place k tag q below there child;
  }
    where
      step : (q : Tag) → HasChild children dir q → IsAtOrBelow children first q
      step q child = ⊎_elim (λ start. inr (dir, start, leads_one q child)) (λ (start, is, way). inr (start, is, leads_more dir q way child))
          (on.below dir ((on.listed dir).0 (at_among old.tags.items place dir at)))

      -- what stands in front of the place stands there as before
      as_before : (k : ℕ) (tag : Tag) → k < length old.tags.items → slice_get new.tags.items k ≡ Some tag → slice_get old.tags.items k ≡ Some tag
      as_before k tag within there =
          let was = some_at old.tags.items k within in
          was.1 ∙ ap (λ (t : Tag). Some t) (some_same was.0 tag (sym (notes.keeps k was.0 was.1) ∙ there))

      by_place : (k : ℕ) (tag q : Tag) → k < place + 1 → slice_get new.tags.items k ≡ Some tag → HasChild children tag q → HasTag new.seen q
      by_place k tag q below there child =
          let within = slice_get_within old.tags.items place dir at in
          let before = as_before k tag (omega (arith, below, within)) there in
          ⊎_elim (λ low. (notes.has q).1 (inl (on.done k tag q low before child)))
          (λ high.
          let here : k ≡ place = omega (arith, below, high) in
          let same : tag ≡ dir = some_same tag dir (sym before ∙ ap (slice_get old.tags.items) here ∙ at) in
          (notes.has q).1 (inr (subst (λ (t : Tag). HasChild children t q) same child)))
          (cases_lt k place)

  pub on_to_the_end : (first walk : Walk) (place : ℕ) → length walk.tags.items ≤ place → IsOnTheWay first walk place → (q : Tag) → HasTag walk.seen q ↔ IsAtOrBelow children first q
  on_to_the_end first walk place whole on q = (on.below q, λ which. ⊎_elim (λ is. on.had q is) (λ (start, is, way). along start q (on.had start is) way) which)
    where
      further : (tag q : Tag) → HasTag walk.seen tag → HasChild children tag q → HasTag walk.seen q
      further tag q is child =
          let at = among_at walk.tags.items tag ((on.listed tag).1 is) in
          let within = slice_get_within walk.tags.items at.0 tag at.1 in
          on.done at.0 tag q (omega (arith, within, whole)) at.1 child

      along : (start q : Tag) → HasTag walk.seen start → IsBelow children start q → HasTag walk.seen q
      along start q is way = elim way as (λ q way. HasTag walk.seen q) [
        | leads_one tag child ↦ further start tag is child
        | leads_more middle tag (before → there) child ↦ further middle tag there child
      ]

-- ---- one step first

module _ (Child : Tag → Tag → Type 0) where
  pub step_first : (dir middle tag : Tag) → Child dir middle → Leads Child middle tag → Leads Child dir tag
  step_first dir middle tag child way = elim way as (λ tag way. Leads Child dir tag) [
    | leads_one to last ↦ leads_more middle to (leads_one middle child) last
    | leads_more mid to (before → there) last ↦ leads_more mid to there last
  ]

  pub first_step : (dir tag : Tag) → Leads Child dir tag → Child dir tag ⊎ ((middle : Tag) × Child dir middle × Leads Child middle tag)
  first_step dir tag way = elim way as (λ tag way. Child dir tag ⊎ ((middle : Tag) × Child dir middle × Leads Child middle tag)) [
    | leads_one to child ↦ inl child
    | leads_more middle to (before → there) last ↦ ⊎_elim (λ child. inr (middle, child, leads_one to last)) (λ (mid, child, rest). inr (mid, child, leads_more middle to rest last)) there
  ]

pub below_by_children : {Z : Type 0} (children : BTreeMap Tag (Vec Tag Z)) (dir : Tag) (none first walk : Walk) → ((q : Tag) → ¬ HasTag none.seen q) → Notes (HasChild children dir) none first
    → ((q : Tag) → HasTag walk.seen q ↔ IsAtOrBelow children first q) → (q : Tag) → HasTag walk.seen q ↔ IsBelow children dir q
below_by_children children dir none first walk never notes all q = (
  λ is. ⊎_elim (λ start. leads_one q (child q start)) (λ (start, there, way). step_first (HasChild children) dir start q (child start there) way) ((all q).0 is),
  λ way. (all q).1 (⊎_elim (λ one. inl ((notes.has q).1 (inr one))) (λ (middle, one, rest). inr (middle, (notes.has middle).1 (inr one), rest)) (first_step (HasChild children) dir q way)),
)
  where
    child : (t : Tag) → HasTag first.seen t → HasChild children dir t
    child t there = ⊎_elim (λ before. absurd (never t before)) (λ is. is) ((notes.has t).0 there)
