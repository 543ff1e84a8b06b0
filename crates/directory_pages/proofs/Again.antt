-- Rows that were spelled are read again.
use Rattle.std.proofs.Common.{◌≡◌, ◌∙◌, ℕ, zero, suc, ◌+◌, ◌-◌, ◌<◌, ◌≤◌, ◌&&◌, true, false, not, nat_le, List, [], ◌∷◌, ◌++◌, length, take, drop, get_or, refl, sym, ap, arith, append_assoc, length-append}
use Rattle.std.proofs.lemmas.Bool.{and_from, and_parts, le-leb, leb-true}
use Rattle.std.proofs.lemmas.List.{take_at, drop_at, drop-drop}
use Rattle.std.specs.List.{AllByRecursion, list_all}
use Rattle.cell_records.specs.domain_base.declared.place.Kind.{Kind}
use Rattle.cell_records.specs.domain_base.declared.place.Kind.TheVariants.{File, Directory}
use Rattle.cell_records.specs.declared.rule.Rule.{Rule}
use Rattle.cell_records.specs.declared.rule.Rule.TheVariants.{Any}
use Rattle.cell_records.specs.Fields.{Fit, number_at}
use Rattle.cell_records.specs.Records.{spelled}
use Rattle.cell_records.specs.Rules.{nothing_seen}
use Rattle.cell_records.proofs.Scan.{Passes, decoded, decoded_again}
use Rattle.cell_records.proofs.Spelling.{length-spelled}
use Rattle.directory_pages.specs.declared.row.Row.{Row}
use Rattle.directory_pages.specs.Rows.{IsRow, are_rows, first_row, first_rows, fit_rows, is_dots, is_name_byte, is_name_len, is_row, is_row_name, kind_number, kind_of, name_len, other_rows, row_numbers, row_widths, spelled_row, spelling}

-- ---- numbers

abbrev any_of : List ℕ → List Rule
any_of [] = []
any_of (w ∷ ws) = Any ∷ any_of ws

pass_any : (ws ns : List ℕ) → Fit ws ns → Passes ws (any_of ws) nothing_seen ns
pass_any [] [] fit = tt
pass_any [] (n ∷ ns) fit = absurd fit
pass_any (w ∷ ws) [] fit = absurd fit
pass_any (w ∷ ws) (n ∷ ns) fit = (fit.1, refl, pass_any ws ns fit.2)

-- numbers that stand at the front of some bytes are read again
pub read_again : (ws ns rest : List ℕ) → Fit ws ns → decoded ws 0 (spelled ws ns ++ rest) ≡ ns
read_again ws ns rest fit = decoded_again ws (any_of ws) nothing_seen ns [] rest 0 (pass_any ws ns fit) refl

-- ---- names

len_passes : (name : List ℕ) → is_row_name name ≡ true → is_name_len (length name) ≡ true
len_passes name named =
    let a = is_name_len (length name) in
    let b = list_all is_name_byte name in
    (and_parts a b (and_parts (a && b) (not (is_dots name)) named).0).0

pub name_most : (name : List ℕ) → is_row_name name ≡ true → length name ≤ 255
name_most name named = leb-true (length name) 255 (and_parts (nat_le 1 (length name)) (nat_le (length name) 255) (len_passes name named)).1

-- ---- one row

kind_small : (kind : Kind) → kind_number kind < 256
kind_small File = omega arith
kind_small Directory = omega arith

kind_again : (kind : Kind) → kind_of (kind_number kind) ≡ kind
kind_again File = refl
kind_again Directory = refl

kind_known : (kind : Kind) → nat_le 1 (kind_number kind) && nat_le (kind_number kind) 2 ≡ true
kind_known File = refl
kind_known Directory = refl

abbrev pub head : Row → List ℕ
head row = spelled row_widths (row_numbers row)

pub head_long : (row : Row) → length (head row) ≡ 8
head_long row = length-spelled row_widths (row_numbers row) refl

pub row_long : (row : Row) → length (spelled_row row) ≡ 8 + length row.name
row_long row = omega (arith, length-append (head row) row.name, head_long row)

module _ (row : Row) (rest : List ℕ) (good : IsRow row) where
  abbrev text : List ℕ
  text = spelled_row row ++ rest

  short : length row.name < 256
  short = omega (arith, name_most row.name good.named)

  pub fit : Fit row_widths (row_numbers row)
  fit = ((omega arith, omega arith), good.slot, ((omega arith, omega arith), good.seq, ((omega arith, omega arith), kind_small row.kind, ((omega arith, omega arith), short, tt))))

  grouped : text ≡ head row ++ (row.name ++ rest)
  grouped = append_assoc (head row) row.name rest

  back : decoded row_widths 0 text ≡ row_numbers row
  back = ap (decoded row_widths 0) grouped ∙ read_again row_widths (row_numbers row) (row.name ++ rest) fit

  at : (k : ℕ) → get_or (decoded row_widths 0 text) k 0 ≡ get_or (row_numbers row) k 0
  at k = ap (λ ns. get_or ns k 0) back

  behind_head : drop 8 text ≡ row.name ++ rest
  behind_head = ap (drop 8) grouped ∙ drop_at (head row) (row.name ++ rest) 8 (head_long row)

  pub len_is : name_len text ≡ length row.name
  len_is = at 3

  name_is : take (name_len text) (drop 8 text) ≡ row.name
  name_is = ap (λ n. take n (drop 8 text)) len_is ∙ ap (take (length row.name)) behind_head ∙ take_at row.name rest (length row.name) refl

  pub others_are : other_rows text ≡ rest
  others_are =
      ap (λ n. drop (8 + n) text) len_is ∙ sym (drop-drop (length row.name) 8 text) ∙ ap (drop (length row.name)) behind_head
      ∙ drop_at row.name rest (length row.name) refl

  kind_is : kind_of (number_at 1 6 text) ≡ row.kind
  kind_is = ap kind_of (at 2) ∙ kind_again row.kind

  pub row_again : first_row text ≡ row
  row_again = λ i. record { tag = record { slot = at 0 i; seq = at 1 i }; kind = kind_is i; name = name_is i }

  pub whole_row : 8 + name_len text ≤ length text
  whole_row = omega (arith, len_is, length-append (spelled_row row) rest, row_long row)

  pub row_is : is_row text ≡ true
  row_is =
      let long = nat_le (8 + name_len text) (length text) in
      let known = nat_le 1 (number_at 1 6 text) && nat_le (number_at 1 6 text) 2 in
      and_from (long && known) (is_row_name (take (name_len text) (drop 8 text)))
      (and_from long known (le-leb (8 + name_len text) (length text) whole_row) (ap (λ n. nat_le 1 n && nat_le n 2) (at 2) ∙ kind_known row.kind))
      (ap is_row_name name_is ∙ good.named)

-- ---- rows

pub rows_again : (rows : List Row) (rest : List ℕ) → AllByRecursion IsRow rows → first_rows (length rows) (spelling rows ++ rest) ≡ rows
rows_again [] rest good = refl
rows_again (row ∷ rows) rest good =
    let more = spelling rows ++ rest in
    ap (first_rows (suc (length rows))) (append_assoc (spelled_row row) (spelling rows) rest)
    ∙ (λ i. row_again row more good.0 i ∷ first_rows (length rows) (others_are row more good.0 i))
    ∙ ap (λ (rs : List Row). row ∷ rs) (rows_again rows rest good.1)

pub rows_fit : (rows : List Row) (rest : List ℕ) → AllByRecursion IsRow rows → fit_rows (length rows) (spelling rows ++ rest) ≡ true
rows_fit [] rest good = refl
rows_fit (row ∷ rows) rest good =
    let more = spelling rows ++ rest in
    let bytes = spelled_row row ++ more in
    ap (fit_rows (suc (length rows))) (append_assoc (spelled_row row) (spelling rows) rest)
    ∙ and_from (nat_le (8 + name_len bytes) (length bytes)) (fit_rows (length rows) (other_rows bytes))
    (le-leb (8 + name_len bytes) (length bytes) (whole_row row more good.0))
    (ap (fit_rows (length rows)) (others_are row more good.0) ∙ rows_fit rows rest good.1)

pub rows_are : (rows : List Row) → AllByRecursion IsRow rows → are_rows (length rows) (spelling rows) ≡ true
rows_are [] good = refl
rows_are (row ∷ rows) good =
    let more = spelling rows in
    let bytes = spelled_row row ++ more in
    and_from (is_row bytes) (are_rows (length rows) (other_rows bytes)) (row_is row more good.0)
    (ap (are_rows (length rows)) (others_are row more good.0) ∙ rows_are rows good.1)

-- each row takes more than a byte
pub rows_long : (rows : List Row) → length rows ≤ length (spelling rows)
rows_long [] = omega arith
rows_long (row ∷ rows) = omega (arith, length-append (spelled_row row) (spelling rows), row_long row, rows_long rows)

pub spelling-append : (rows more : List Row) → spelling (rows ++ more) ≡ spelling rows ++ spelling more
spelling-append [] more = refl
spelling-append (row ∷ rows) more =
    ap (λ (bs : List ℕ). spelled_row row ++ bs) (spelling-append rows more) ∙ sym (append_assoc (spelled_row row) (spelling rows) (spelling more))

-- ---- the first row, and the others

pub count_is : (n : ℕ) (bytes : List ℕ) → length (first_rows n bytes) ≡ n
count_is zero bytes = refl
count_is (suc n) bytes = ap suc (count_is n (other_rows bytes))

-- ---- the tests of rows, one after the other

pub not_rows : (n : ℕ) (bytes : List ℕ) → 0 < n → is_row bytes ≡ false → are_rows n bytes ≡ false
not_rows zero bytes some fails = absurd (omega (arith, some))
not_rows (suc n) bytes some fails = ap (λ b. b && are_rows n (other_rows bytes)) fails

pub rows_go_on : (n : ℕ) (bytes : List ℕ) → 0 < n → is_row bytes ≡ true → are_rows n bytes ≡ are_rows (n - 1) (other_rows bytes)
rows_go_on zero bytes some is = absurd (omega (arith, some))
rows_go_on (suc n) bytes some is =
    let e : n ≡ suc n - 1 = omega arith in
    ap (λ b. b && are_rows n (other_rows bytes)) is ∙ ap (λ m. are_rows m (other_rows bytes)) e
