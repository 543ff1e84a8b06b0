-- One row more than n rows.
use Rattle.std.proofs.Common.{◌≡◌, ℕ, zero, suc, ◌+◌, ◌*◌, ◌<◌, List, [], ◌∷◌, ◌++◌, length, take, set, refl, sym, ap, ◌∙◌, arith}
use Rattle.std.proofs.lemmas.List.{take_more_set}
use Rattle.cell_records.specs.Fields.{rows_at}

module _ {X : Type 0} (row : ℕ → List ℕ → X) (width : ℕ) where
  rows-more : (n at : ℕ) (bytes : List ℕ) → rows_at row width (suc n) at bytes ≡ rows_at row width n at bytes ++ row (at + width * n) bytes ∷ []
  rows-more zero at bytes = let e : at + width * 0 ≡ at = omega arith in rw e refl
  rows-more (suc n) at bytes =
      let e : at + width * suc n ≡ at + width + width * n = omega arith in
      rw e (ap (λ (xs : List X). row at bytes ∷ xs) (rows-more n (at + width) bytes))

  pub rows-set : (rows : List X) (i at : ℕ) (bytes : List ℕ) (x : X) → i < length rows → take i rows ≡ rows_at row width i at bytes → x ≡ row (at + width * i) bytes
      → take (i + 1) (set rows i x) ≡ rows_at row width (i + 1) at bytes
  rows-set rows i at bytes x lt so_far here =
      let more = rows-more i at bytes in
      let k : i + 1 ≡ suc i = omega arith in
      take_more_set rows i x lt ∙ rw (so_far, here, k) (sym more)
