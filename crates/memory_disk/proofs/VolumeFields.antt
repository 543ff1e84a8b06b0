-- What a change of one volume leaves of all.
use Rattle.std.proofs.Common.{◌≡◌, ◌≢◌, ℕ, zero, suc, ◌+◌, ◌<◌, ◌≤◌, Bool, false, List, [], ◌∷◌, ◌++◌, length, get_or, set, refl, sym, ◌∙◌, ap, inl, inr, arith, add-one}
use Rattle.std.proofs.lemmas.Bool.{cases_eq, eq-eqb, ne_eqb}
use Rattle.volume_disk.specs.Disk.{Moment, volume_pages, put_at}
use Rattle.volume_disk.specs.Image.{Image}
use Rattle.memory_disk.specs.Moment.{blank}
use Rattle.memory_disk.specs.Volume.{byte_of, mark_of, field_at, field_of, moment_of, sizes_of}
use Rattle.memory_disk.specs.declared.volume.Volume.{Volume}

module _ {X : Type 0} (f : Volume → X) (d : X) where
  field_at-set_same : (volumes : List Volume) (i : ℕ) (x : Volume) → i < length volumes → field_at f d (set volumes i x) i ≡ f x
  field_at-set_same [] i x lt = absurd (omega arith)
  field_at-set_same (v ∷ volumes) zero x lt = refl
  field_at-set_same (v ∷ volumes) (suc i) x lt = field_at-set_same volumes i x (omega arith)

  field_at-set_other : (volumes : List Volume) (i j : ℕ) (x : Volume) → j ≢ i → field_at f d (set volumes i x) j ≡ field_at f d volumes j
  field_at-set_other [] i j x other = refl
  field_at-set_other (v ∷ volumes) zero zero x other = absurd (other refl)
  field_at-set_other (v ∷ volumes) zero (suc j) x other = refl
  field_at-set_other (v ∷ volumes) (suc i) zero x other = refl
  field_at-set_other (v ∷ volumes) (suc i) (suc j) x other = field_at-set_other volumes i j x (λ e. other (ap suc e))

  field_at-get_or : (volumes : List Volume) (i : ℕ) (v : Volume) → i < length volumes → field_at f d volumes i ≡ f (get_or volumes i v)
  field_at-get_or [] i v lt = absurd (omega arith)
  field_at-get_or (x ∷ volumes) zero v lt = refl
  field_at-get_or (x ∷ volumes) (suc i) v lt = field_at-get_or volumes i v (omega arith)

  pub field_at-past : (volumes : List Volume) (i : ℕ) → length volumes ≤ i → field_at f d volumes i ≡ d
  field_at-past [] i le = refl
  field_at-past (x ∷ volumes) zero le = absurd (omega arith)
  field_at-past (x ∷ volumes) (suc i) le = field_at-past volumes i (omega arith)

  -- past the last volume
  pub field_of-past : (volumes : List Volume) (vol i : ℕ) → i + 1 ≡ vol → length volumes ≤ i → field_of f d volumes vol ≡ d
  field_of-past volumes vol i number le = ap (field_of f d volumes) (sym number ∙ add-one i) ∙ field_at-past volumes i le

  pub field_at-read : (volumes : List Volume) (i : ℕ) (v : Volume) → i < length volumes → v ≡ get_or volumes i v → field_at f d volumes i ≡ f v
  field_at-read volumes i v lt read = field_at-get_or volumes i v lt ∙ ap f (sym read)

  pub field_at-push_before : (volumes : List Volume) (x : Volume) (i : ℕ) → i < length volumes → field_at f d (volumes ++ x ∷ []) i ≡ field_at f d volumes i
  field_at-push_before [] x i lt = absurd (omega arith)
  field_at-push_before (y ∷ volumes) x zero lt = refl
  field_at-push_before (y ∷ volumes) x (suc i) lt = field_at-push_before volumes x i (omega arith)

  pub field_at-push_last : (volumes : List Volume) (x : Volume) (i : ℕ) → length volumes ≡ i → field_at f d (volumes ++ x ∷ []) i ≡ f x
  field_at-push_last [] x zero is = refl
  field_at-push_last [] x (suc i) is = absurd (omega arith)
  field_at-push_last (y ∷ volumes) x zero is = absurd (omega arith)
  field_at-push_last (y ∷ volumes) x (suc i) is = field_at-push_last volumes x i (omega arith)

  field_at-push : (volumes : List Volume) (x : Volume) → ((i : ℕ) → field_at f d volumes i ≡ d) → f x ≡ d → (i : ℕ) → field_at f d (volumes ++ x ∷ []) i ≡ d
  field_at-push [] x none last zero = last
  field_at-push [] x none last (suc i) = refl
  field_at-push (y ∷ volumes) x none last zero = none 0
  field_at-push (y ∷ volumes) x none last (suc i) = field_at-push volumes x (λ j. none (suc j)) last i

  -- one volume more where every volume has d
  pub field_of-push : (volumes : List Volume) (x : Volume) → field_of f d volumes ≡ (λ _. d) → f x ≡ d → field_of f d (volumes ++ x ∷ []) ≡ (λ _. d)
  field_of-push volumes x none last = λ j vol. place vol j
    where
      place : (vol : ℕ) → field_of f d (volumes ++ x ∷ []) vol ≡ d
      place zero = refl
      place (suc i) = field_at-push volumes x (λ k. ap (λ (g : ℕ → X). g (suc k)) none) last i

  module _ (volumes : List Volume) (vol i : ℕ) (x v : Volume) (number : i + 1 ≡ vol) (lt : i < length volumes) (read : v ≡ get_or volumes i v) where
    -- what is read of a volume by its number
    pub field_of-read : field_of f d volumes vol ≡ f v
    field_of-read = ap (field_of f d volumes) (sym number ∙ add-one i) ∙ field_at-get_or volumes i v lt ∙ ap f (sym read)

    -- the volume in that place is changed by g
    pub changed_by : (g : X → X) → f x ≡ g (f v) → field_of f d (set volumes i x) ≡ put_at (field_of f d volumes) vol (g (field_of f d volumes vol))
    changed_by g same = λ j k. place k j
      where
        is : f x ≡ g (field_of f d volumes vol)
        is = same ∙ ap g (sym field_of-read)

        place : (k : ℕ) → field_of f d (set volumes i x) k ≡ put_at (field_of f d volumes) vol (g (field_of f d volumes vol)) k
        place zero = rw (ne_eqb zero vol (λ e. absurd (omega arith))) refl
        place (suc k) = elim (cases_eq k i) [
          | inl e ↦ rw (eq-eqb (suc k) vol (omega arith), e) (field_at-set_same volumes i x lt ∙ is)
          | inr e ↦ rw (ne_eqb (suc k) vol (λ h. e (omega arith))) (field_at-set_other volumes i k x e)
        ]

    -- the volume in that place keeps it
    pub kept_by : f x ≡ f v → field_of f d (set volumes i x) ≡ field_of f d volumes
    kept_by same = λ j k. place k j
      where
        place : (k : ℕ) → field_of f d (set volumes i x) k ≡ field_of f d volumes k
        place zero = refl
        place (suc k) = elim (cases_eq k i) [
          | inl e ↦ rw e (field_at-set_same volumes i x lt ∙ same ∙ ap f read ∙ sym (field_at-get_or volumes i v lt))
          | inr e ↦ field_at-set_other volumes i k x e
        ]

pub sizes_of-set : (volumes : List Volume) (i : ℕ) (x v : Volume) → v ≡ get_or volumes i v → x.pages ≡ v.pages → i < length volumes → sizes_of (set volumes i x) ≡ sizes_of volumes
sizes_of-set [] i x v read same lt = refl
sizes_of-set (y ∷ volumes) zero x v read same lt = λ j. (same ∙ pages_path read) j ∷ sizes_of volumes
  where
    pages_path : v ≡ y → v.pages ≡ y.pages
    pages_path e = λ j. (e j).pages
sizes_of-set (y ∷ volumes) (suc i) x v read same lt = ap (λ (l : List ℕ). y.pages ∷ l) (sizes_of-set volumes i x v read same (omega arith))

pub pages_at : (volumes : List Volume) (i : ℕ) (v : Volume) → i < length volumes → get_or (sizes_of volumes) i 0 ≡ (get_or volumes i v).pages
pages_at [] i v lt = absurd (omega arith)
pages_at (y ∷ volumes) zero v lt = refl
pages_at (y ∷ volumes) (suc i) v lt = pages_at volumes i v (omega arith)

pub volume_pages-read : (volumes : List Volume) (vol i : ℕ) (v : Volume) → i + 1 ≡ vol → i < length volumes → v ≡ get_or volumes i v → volume_pages (sizes_of volumes) vol ≡ v.pages
volume_pages-read volumes vol i v number lt read = ap (volume_pages (sizes_of volumes)) (sym number ∙ add-one i) ∙ pages_at volumes i v lt ∙ (λ j. (sym read j).pages)

pub same_moment : (c c' : Image) (u u' : ℕ → ℕ → Bool) → c ≡ c' → u ≡ u' → let m : Moment = record { contents = c; unsynced = u } in let m' : Moment = record { contents = c'; unsynced = u' } in m ≡ m'
same_moment c c' u u' p q = λ i. record { contents = p i; unsynced = q i }

pub same_bytes : (x y : Volume) → x.bytes ≡ y.bytes → byte_of x ≡ byte_of y
same_bytes x y same = λ i k. get_or (same i).items k 0

-- one volume of zeros more
pub moment_of-push : (volumes : List Volume) (x : Volume) → moment_of volumes ≡ blank → byte_of x ≡ (λ _. 0) → mark_of x ≡ (λ _. false) → moment_of (volumes ++ x ∷ []) ≡ blank
moment_of-push volumes x was bytes marks =
    same_moment _ _ _ _
    (field_of-push byte_of (λ _. 0) volumes x (λ i. (was i).contents) bytes)
    (field_of-push mark_of (λ _. false) volumes x (λ i. (was i).unsynced) marks)

pub sizes_of-push : (volumes : List Volume) (x : Volume) → sizes_of (volumes ++ x ∷ []) ≡ sizes_of volumes ++ x.pages ∷ []
sizes_of-push [] x = refl
sizes_of-push (y ∷ volumes) x = ap (λ (l : List ℕ). y.pages ∷ l) (sizes_of-push volumes x)

pub length-sizes_of : (volumes : List Volume) → length (sizes_of volumes) ≡ length volumes
length-sizes_of [] = refl
length-sizes_of (y ∷ volumes) = ap suc (length-sizes_of volumes)

-- two racks of the same sizes have the same pages at each place
pub pages_at-same : (volumes others : List Volume) (i : ℕ) (v w : Volume) → sizes_of others ≡ sizes_of volumes → i < length volumes → v ≡ get_or volumes i v → w ≡ get_or others i w → w.pages ≡ v.pages
pages_at-same volumes others i v w same lt read other_read =
    let there : length others ≡ length volumes = sym (length-sizes_of others) ∙ ap length same ∙ length-sizes_of volumes in
    (λ j. (other_read j).pages) ∙ sym (pages_at others i w (omega arith)) ∙ ap (λ (l : List ℕ). get_or l i 0) same ∙ pages_at volumes i v lt ∙ (λ j. (sym read j).pages)
