-- Numbers that are spelled one after the other.
use Rattle.std.proofs.Common.{◌≡◌, ℕ, zero, suc, ◌+◌, ◌-◌, ◌*◌, ◌^◌, ◌<◌, ◌≤◌, List, [], ◌∷◌, ◌++◌, length, get_or, take, drop, sum, refl, sym, ap, ◌∙◌, append_assoc, arith, length-append, length-drop, length-take}
use Rattle.std.proofs.lemmas.List.{take_at, drop_at, take_all, drop_all, drop-drop, append-nil, take-append-drop, take_more}
use Rattle.std.proofs.lemmas.List.Sums.{sum_by-cons, sum_by-append, sum_by_more}
use Rattle.std.proofs.lemmas.List.Concat.{flat_map-append, flat_map-cons}
use Rattle.std.specs.List.{flat_map}
use Rattle.byteorder.specs.Endian.{little_bytes}
use Rattle.byteorder.specs.Numbers.{length-bytes_low_first}
use borrow.Rule.Slice.PartMut.{put_mid, post_of}
use Rattle.cell_records.specs.Layouts.{repeated}
use Rattle.cell_records.specs.Records.{spelled}
use Rattle.cell_records.specs.Fields.{Fit}

pub sum-cons : (x : ℕ) (xs : List ℕ) → sum (x ∷ xs) ≡ x + sum xs
sum-cons x xs = sum_by-cons (λ y. y) x xs

pub sum-append : (xs ys : List ℕ) → sum (xs ++ ys) ≡ sum xs + sum ys
sum-append xs ys = sum_by-append (λ y. y) xs ys

pub sum-take_le : (i : ℕ) (ws : List ℕ) → sum (take i ws) ≤ sum ws
sum-take_le i ws =
    let whole = ap sum (take-append-drop i ws) in
    let parts = sum-append (take i ws) (drop i ws) in
    omega (arith, whole, parts)

-- each number of fitting ones fits its field
pub record FitsAt (ws ns : List ℕ) (i : ℕ) : Type 0 where
  pub low : 1 ≤ get_or ws i 0
  pub high : get_or ws i 0 ≤ 8
  pub fits : get_or ns i 0 < 256 ^ get_or ws i 0

pub Fit-at : (ws ns : List ℕ) (i : ℕ) → Fit ws ns → i < length ws → FitsAt ws ns i
Fit-at [] [] i fit lt = absurd (omega arith)
Fit-at [] (n ∷ ns) i fit lt = absurd fit
Fit-at (w ∷ ws) [] i fit lt = absurd fit
Fit-at (w ∷ ws) (n ∷ ns) zero fit lt = record { low = fit.0.0; high = fit.0.1; fits = fit.1 }
Fit-at (w ∷ ws) (n ∷ ns) (suc i) fit lt = let h = Fit-at ws ns i fit.2 (omega arith) in record { low = h.low; high = h.high; fits = h.fits }

pub Fit-length : (ws ns : List ℕ) → Fit ws ns → length ns ≡ length ws
Fit-length [] [] fit = refl
Fit-length [] (n ∷ ns) fit = absurd fit
Fit-length (w ∷ ws) [] fit = absurd fit
Fit-length (w ∷ ws) (n ∷ ns) fit = ap suc (Fit-length ws ns fit.2)

pub length-spelled : (ws ns : List ℕ) → length ns ≡ length ws → length (spelled ws ns) ≡ sum ws
unfolding spelled
length-spelled [] ns e = refl
length-spelled (w ∷ ws) [] e = absurd (omega arith)
length-spelled (w ∷ ws) (n ∷ ns) e =
    omega (arith, length-append (little_bytes w n) (spelled ws ns), length-bytes_low_first 0 w n, length-spelled ws ns (omega arith), sum-cons w ws)

pub spelled-append : (vs ms ws ns : List ℕ) → length ms ≡ length vs → spelled (vs ++ ws) (ms ++ ns) ≡ spelled vs ms ++ spelled ws ns
unfolding spelled
spelled-append [] [] ws ns e = refl
spelled-append [] (m ∷ ms) ws ns e = absurd (omega arith)
spelled-append (v ∷ vs) [] ws ns e = absurd (omega arith)
spelled-append (v ∷ vs) (m ∷ ms) ws ns e =
    let rest = spelled-append vs ms ws ns (omega arith) in
    rw rest (sym (append_assoc (little_bytes v m) (spelled vs ms) (spelled ws ns)))

pub spelled-more : (ws ns : List ℕ) (i : ℕ) → i < length ws → i < length ns → spelled (take (i + 1) ws) (take (i + 1) ns) ≡ spelled (take i ws) (take i ns) ++ little_bytes (get_or ws i 0) (get_or ns i 0)
unfolding spelled
spelled-more [] ns i lt lt' = absurd (omega arith)
spelled-more (w ∷ ws) [] i lt lt' = absurd (omega arith)
spelled-more (w ∷ ws) (n ∷ ns) zero lt lt' = append-nil (little_bytes w n)
spelled-more (w ∷ ws) (n ∷ ns) (suc i) lt lt' =
    let k : suc i + 1 ≡ suc (i + 1) = omega arith in
    rw (k, spelled-more ws ns i (omega arith) (omega arith)) (sym (append_assoc (little_bytes w n) (spelled (take i ws) (take i ns)) (little_bytes (get_or ws i 0) (get_or ns i 0))))

-- A text of n bytes that is written over the bytes after a front.
pub overwritten : (front text old xs ys : List ℕ) (at n : ℕ) → length front ≡ at → length text ≡ n → at + n ≤ length old → xs ≡ front ++ drop at old
    → ys ≡ text ++ drop n (take (length xs - at) (drop at xs))
    → put_mid at (length xs - at) xs ys ≡ (front ++ text) ++ drop (at + n) old
overwritten front text old xs ys at n len len' room is_xs is_ys =
    let front_is : take at xs ≡ front = rw is_xs (take_at front (drop at old) at len) in
    let rest_is : drop at xs ≡ drop at old = rw is_xs (drop_at front (drop at old) at len) in
    let long : length (drop at xs) ≤ length xs - at = omega (arith, length-drop at xs) in
    let part : take (length xs - at) (drop at xs) ≡ drop at old = take_all (length xs - at) (drop at xs) long ∙ rest_is in
    let written : ys ≡ text ++ drop (at + n) old = is_ys ∙ rw (part, drop-drop n at old) refl in
    let post : post_of at (length xs - at) xs ≡ [] = drop_all (length xs - at) (drop at xs) long in
    rw (front_is, post, written, append-nil) (sym (append_assoc front text (drop (at + n) old)))

pub sum-take_more : (ws : List ℕ) (i : ℕ) → i < length ws → sum (take (i + 1) ws) ≡ sum (take i ws) + get_or ws i 0
sum-take_more ws i lt = sum_by_more (λ y. y) ws i 0 lt

-- one number more of those that are written
pub put-more : (ws ns old xs ys : List ℕ) (at i : ℕ) → Fit ws ns → i < length ws → sum ws ≤ length old → at ≡ sum (take i ws)
    → xs ≡ spelled (take i ws) (take i ns) ++ drop at old
    → ys ≡ little_bytes (get_or ws i 0) (get_or ns i 0) ++ drop (get_or ws i 0) (take (length xs - at) (drop at xs))
    → put_mid at (length xs - at) xs ys ≡ spelled (take (i + 1) ws) (take (i + 1) ns) ++ drop (at + get_or ws i 0) old
put-more ws ns old xs ys at i fit lt room counted is_xs is_ys =
    let same = Fit-length ws ns fit in
    let takes : length (take i ns) ≡ length (take i ws) = omega (arith, length-take i ns, length-take i ws) in
    let front : length (spelled (take i ws) (take i ns)) ≡ at = length-spelled (take i ws) (take i ns) takes ∙ sym counted in
    let text : length (little_bytes (get_or ws i 0) (get_or ns i 0)) ≡ get_or ws i 0 = length-bytes_low_first 0 (get_or ws i 0) (get_or ns i 0) in
    let below : at + get_or ws i 0 ≤ length old = omega (arith, sum-take_more ws i lt, sum-take_le (i + 1) ws) in
    let more = spelled-more ws ns i lt (omega arith) in
    rw more (overwritten (spelled (take i ws) (take i ns)) (little_bytes (get_or ws i 0) (get_or ns i 0)) old xs ys at (get_or ws i 0) front text below is_xs is_ys)

-- ---- rows of numbers, each of the same widths

pub repeated-push : (n : ℕ) (ws : List ℕ) → repeated (suc n) ws ≡ repeated n ws ++ ws
repeated-push zero ws = append-nil ws
repeated-push (suc n) ws =
    ap (λ (vs : List ℕ). ws ++ vs) (repeated-push n ws) ∙ sym (append_assoc ws (repeated n ws) ws)

pub length-rows : {X : Type 0} (f : X → List ℕ) (ws : List ℕ) (rows : List X) → ((x : X) → length (f x) ≡ length ws) → length (flat_map f rows) ≡ length (repeated (length rows) ws)
length-rows f ws [] same = refl
length-rows f ws (x ∷ rows) same =
    omega (arith, ap length (flat_map-cons f x rows), length-append (f x) (flat_map f rows), length-append ws (repeated (length rows) ws), same x, length-rows f ws rows same)

pub sum-repeated : (n : ℕ) (ws : List ℕ) → sum (repeated n ws) ≡ sum ws * n
sum-repeated zero ws = omega arith
sum-repeated (suc n) ws = omega (arith, sum-append ws (repeated n ws), sum-repeated n ws)

-- one row more after a head
pub rows-more : {X : Type 0} (f : X → List ℕ) (ws vs ms : List ℕ) (rows : List X) (d : X) (old xs ys : List ℕ) (at i : ℕ) → ((x : X) → length (f x) ≡ length ws) → length ms ≡ length vs → i < length rows
    → at + sum ws ≤ length old → at ≡ sum vs + sum ws * i
    → xs ≡ spelled (vs ++ repeated i ws) (ms ++ flat_map f (take i rows)) ++ drop at old
    → ys ≡ spelled ws (f (get_or rows i d)) ++ drop (sum ws) (take (length xs - at) (drop at xs))
    → put_mid at (length xs - at) xs ys ≡ spelled (vs ++ repeated (i + 1) ws) (ms ++ flat_map f (take (i + 1) rows)) ++ drop (at + sum ws) old
rows-more {X = X} f ws vs ms rows d old xs ys at i same head lt room counted is_xs is_ys =
    let row = get_or rows i d in
    let ns = flat_map f (take i rows) in
    let len : length (take i rows) ≡ i = omega (arith, length-take i rows) in
    let both : length ns ≡ length (repeated i ws) = length-rows f ws (take i rows) same ∙ ap (λ (n : ℕ). length (repeated n ws)) len in
    let all : length (ms ++ ns) ≡ length (vs ++ repeated i ws) = omega (arith, length-append ms ns, length-append vs (repeated i ws)) in
    let front : length (spelled (vs ++ repeated i ws) (ms ++ ns)) ≡ at = omega (arith, length-spelled (vs ++ repeated i ws) (ms ++ ns) all, sum-append vs (repeated i ws), sum-repeated i ws) in
    let text : length (spelled ws (f row)) ≡ sum ws = length-spelled ws (f row) (same row) in
    let numbers : ms ++ flat_map f (take (i + 1) rows) ≡ (ms ++ ns) ++ f row =
    ap (λ (xs : List X). ms ++ flat_map f xs) (take_more rows i d lt) ∙ ap (λ (qs : List ℕ). ms ++ qs) (flat_map-append f (take i rows) (row ∷ []) ∙ ap (λ (qs : List ℕ). ns ++ qs) (flat_map-cons f row [] ∙ append-nil (f row))) ∙ sym (append_assoc ms ns (f row)) in
    let k : i + 1 ≡ suc i = omega arith in
    let layout : vs ++ repeated (i + 1) ws ≡ (vs ++ repeated i ws) ++ ws = ap (λ (n : ℕ). vs ++ repeated n ws) k ∙ ap (λ (us : List ℕ). vs ++ us) (repeated-push i ws) ∙ sym (append_assoc vs (repeated i ws) ws) in
    rw (layout, numbers, spelled-append (vs ++ repeated i ws) (ms ++ ns) ws (f row) all)
    (overwritten (spelled (vs ++ repeated i ws) (ms ++ ns)) (spelled ws (f row)) old xs ys at (sum ws) front text room is_xs is_ys)
