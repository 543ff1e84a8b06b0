-- What a move of a page makes of the counts.
use Rattle.std.proofs.Common.{◌≡◌, ◌∙◌, ℕ, ◌+◌, ◌-◌, ◌*◌, ◌<◌, ◌≤◌, Bool, true, false, cond, nat_eq, lt_of_mul-lt-mul_right, List, [], ◌∷◌, length, get_or, arith, refl, sym, ap, subst}
use Rattle.std.proofs.lemmas.Bool.{eqb-true}
use Rattle.std.proofs.lemmas.List.{get_or-map, length-map}
use Rattle.std.proofs.lemmas.List.Elements.{All-contains, All-map, Contains-get_or}
use Rattle.member_moves.specs.Balance.{AreCounts, IsUneven}
use Rattle.member_moves.specs.MoverMoves.{count_after, counts_after, pages_product}
use Rattle.member_moves.specs.declared.counts.VolCount.{VolCount}
use Rattle.member_moves.proofs.Even.{one_volume}

-- a move leaves a volume's number and its pages
vol_by : (x y : Bool) (c : VolCount)
    → (cond x (record c { used = c.used - 1 }) (cond y (record c { used = c.used + 1 }) c)).vol ≡ c.vol
vol_by true y c = refl
vol_by false true c = refl
vol_by false false c = refl

pages_by : (x y : Bool) (c : VolCount)
    → (cond x (record c { used = c.used - 1 }) (cond y (record c { used = c.used + 1 }) c)).pages ≡ c.pages
pages_by true y c = refl
pages_by false true c = refl
pages_by false false c = refl

pub vol_after : (from to : ℕ) (c : VolCount) → (count_after from to c).vol ≡ c.vol
vol_after from to c = vol_by (nat_eq c.vol from) (nat_eq c.vol to) c

pub pages_after : (from to : ℕ) (c : VolCount) → (count_after from to c).pages ≡ c.pages
pages_after from to c = pages_by (nat_eq c.vol from) (nat_eq c.vol to) c

-- so the common multiple stays
pub product_after : (from to : ℕ) (counts : List VolCount)
    → pages_product (counts_after from to counts) ≡ pages_product counts
product_after from to [] = refl
product_after from to (c ∷ cs) =
    ap (λ (n : ℕ). n * pages_product (counts_after from to cs)) (pages_after from to c)
    ∙ ap (λ (n : ℕ). c.pages * n) (product_after from to cs)

-- a volume that is not level with a fuller one has a page that is not used, if all of the other's are
room_of : (uf pf ue pe : ℕ) → uf ≤ pf → ¬ (2 * (uf * pe - ue * pf) ≤ pe + pf) → ue + 1 ≤ pe
room_of uf pf ue pe within apart =
    let full : uf * pe ≤ pf * pe = grind arith in
    let less : ue * pf < pe * pf = omega (arith, full) in
    let below : ue < pe = lt_of_mul-lt-mul_right pf less in
    omega arith

-- the emptiest volume has room for a page
room : (counts : List VolCount) (full empty : ℕ) → AreCounts counts
    → (uneven : IsUneven counts full empty) → uneven.e.used + 1 ≤ uneven.e.pages
room counts full empty sound uneven =
    room_of uneven.f.used uneven.f.pages uneven.e.used uneven.e.pages
    (All-contains (λ (c : VolCount). c.used ≤ c.pages) counts uneven.f sound.within
    uneven.fullest.open_volume.there)
    uneven.not_level

-- a count stays within its pages, if the volume that gets the page has room
within_by : (x y : Bool) (c : VolCount) → c.used ≤ c.pages → (y ≡ true → c.used + 1 ≤ c.pages)
    → (cond x (record c { used = c.used - 1 }) (cond y (record c { used = c.used + 1 }) c)).used
    ≤ (cond x (record c { used = c.used - 1 }) (cond y (record c { used = c.used + 1 }) c)).pages
within_by true y c within fits = omega arith
within_by false true c within fits = fits refl
within_by false false c within fits = within

pub counts_moved : (counts : List VolCount) (full empty : ℕ) → AreCounts counts
    → IsUneven counts full empty → AreCounts (counts_after full empty counts)
counts_moved counts full empty sound uneven = record {
  distinct = λ i j d less below same.
      let behind : j < length counts = subst (λ (n : ℕ). j < n) (length-map counts after) below in
      sound.distinct i j d less behind (sym (vol_at i d (omega arith)) ∙ same ∙ vol_at j d behind);
  sized = All-map (λ (c : VolCount). 1 ≤ c.pages) after counts
      (λ k d less. subst (λ (n : ℕ). 1 ≤ n) (sym (pages_after full empty (get_or counts k d))) (sound.sized k d less));
  within = All-map (λ (c : VolCount). c.used ≤ c.pages) after counts (λ k d less.
      let c = get_or counts k d in
      within_by (nat_eq c.vol full) (nat_eq c.vol empty) c (sound.within k d less) (λ is.
      let same : c ≡ uneven.e =
      one_volume counts c uneven.e sound (Contains-get_or counts k d less)
      uneven.emptiest.open_volume.there (eqb-true c.vol empty is ∙ sym uneven.is_empty) in
      subst (λ (e : VolCount). e.used + 1 ≤ e.pages) (sym same) (room counts full empty sound uneven)));
}
  where
    after : VolCount → VolCount
    after = count_after full empty

    vol_at : (k : ℕ) (d : VolCount) → k < length counts
        → (get_or (counts_after full empty counts) k d).vol ≡ (get_or counts k d).vol
    vol_at k d less =
        ap (λ (c : VolCount). c.vol) (get_or-map after counts k d d less)
        ∙ vol_after full empty (get_or counts k d)
