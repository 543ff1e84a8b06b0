-- Index pages as they are written.
use Rattle.std.proofs.Common.{◌≡◌, ◌∙◌, ℕ, zero, suc, ◌+◌, ◌-◌, ◌*◌, ◌<◌, ◌≤◌, List, [], ◌∷◌, ◌++◌, length, take, drop, get_or, replicate, refl, sym, ap, subst, arith, append_assoc, length-append, length-take}
use Rattle.std.proofs.lemmas.List.{append-nil, drop-drop, drop_at, take_at, take_more}
use Rattle.std.proofs.Math.Seq.{drop-append-add}
use Rattle.std.specs.List.{AllByRecursion}
use Rattle.cell_records.specs.domain_base.Page.{overwritten, zero_bytes, length-zero_bytes}
use Rattle.cell_records.specs.declared.rule.Rule.{Rule}
use Rattle.cell_records.specs.declared.rule.Rule.TheVariants.{Any}
use Rattle.cell_records.specs.Fields.{Fit, number_at}
use Rattle.cell_records.specs.Records.{spelled}
use Rattle.cell_records.specs.Rules.{nothing_seen}
use Rattle.cell_records.proofs.Scan.{Passes, decoded, decoded_again}
use Rattle.cell_records.proofs.Spelling.{length-spelled}
use Rattle.directory_pages.specs.declared.entry.IndexEntry.{IndexEntry}
use Rattle.directory_pages.specs.Index.{Fits, IsPageOf, entries_from, header, index_page_of, spelled_entry, spelling}

-- ---- numbers read again

abbrev any_of : List ℕ → List Rule
any_of [] = []
any_of (w ∷ ws) = Any ∷ any_of ws

pass_any : (ws ns : List ℕ) → Fit ws ns → Passes ws (any_of ws) nothing_seen ns
pass_any [] [] fit = tt
pass_any [] (n ∷ ns) fit = absurd fit
pass_any (w ∷ ws) [] fit = absurd fit
pass_any (w ∷ ws) (n ∷ ns) fit = (fit.1, refl, pass_any ws ns fit.2)

read_again : (ws ns front rest : List ℕ) (at : ℕ) → Fit ws ns → length front ≡ at → decoded ws at (front ++ (spelled ws ns ++ rest)) ≡ ns
read_again ws ns front rest at fit len = decoded_again ws (any_of ws) nothing_seen ns front rest at (pass_any ws ns fit) len

-- ---- entries

abbrev entry_widths : List ℕ
entry_widths = 4 ∷ 4 ∷ []

abbrev header_widths : List ℕ
header_widths = 4 ∷ 4 ∷ 8 ∷ []

pub entry_long : (entry : IndexEntry) → length (spelled_entry entry) ≡ 8
entry_long entry = length-spelled entry_widths (entry.hash ∷ entry.page ∷ []) refl

pub header_long : (count : ℕ) → length (header count) ≡ 16
header_long count = length-spelled header_widths (0x58524944 ∷ count ∷ 0 ∷ []) refl

pub spelling_long : (entries : List IndexEntry) → length (spelling entries) ≡ 8 * length entries
spelling_long [] = refl
spelling_long (entry ∷ entries) = omega (arith, length-append (spelled_entry entry) (spelling entries), entry_long entry, spelling_long entries)

pub spelling-append : (xs ys : List IndexEntry) → spelling (xs ++ ys) ≡ spelling xs ++ spelling ys
spelling-append [] ys = refl
spelling-append (x ∷ xs) ys = ap (λ (bs : List ℕ). spelled_entry x ++ bs) (spelling-append xs ys) ∙ sym (append_assoc (spelled_entry x) (spelling xs) (spelling ys))

fit_entry : (entry : IndexEntry) → Fits entry → Fit entry_widths (entry.hash ∷ entry.page ∷ [])
fit_entry entry fits = ((omega arith, omega arith), fits.hash, ((omega arith, omega arith), fits.page, tt))

entries_again : (front : List ℕ) (entries : List IndexEntry) (rest : List ℕ) (k : ℕ) → length front ≡ 16 + 8 * k → AllByRecursion Fits entries
    → entries_from (front ++ (spelling entries ++ rest)) k (length entries) ≡ entries
entries_again front [] rest k len fit = refl
entries_again front (entry ∷ entries) rest k len fit =
    let more = spelling entries ++ rest in
    let bytes = front ++ (spelled_entry entry ++ more) in
    let grouped : front ++ ((spelled_entry entry ++ spelling entries) ++ rest) ≡ bytes = ap (λ (bs : List ℕ). front ++ bs) (append_assoc (spelled_entry entry) (spelling entries) rest) in
    let back : decoded entry_widths (16 + 8 * k) bytes ≡ entry.hash ∷ entry.page ∷ [] = read_again entry_widths (entry.hash ∷ entry.page ∷ []) front more (16 + 8 * k) (fit_entry entry fit.0) len in
    let second : 20 + 8 * k ≡ 16 + 8 * k + 4 = omega arith in
    let page : number_at 4 (20 + 8 * k) bytes ≡ entry.page = ap (λ a. number_at 4 a bytes) second ∙ ap (λ ns. get_or ns 1 0) back in
    let hash : number_at 4 (16 + 8 * k) bytes ≡ entry.hash = ap (λ ns. get_or ns 0 0) back in
    let next : length (front ++ spelled_entry entry) ≡ 16 + 8 * (k + 1) = omega (arith, length-append front (spelled_entry entry), entry_long entry, len) in
    ap (λ (bs : List ℕ). entries_from bs k (suc (length entries))) grouped
    ∙ (λ i. record { hash = hash i; page = page i } ∷ entries_from (sym (append_assoc front (spelled_entry entry) more) i) (k + 1) (length entries))
    ∙ ap (λ (es : List IndexEntry). entry ∷ es) (entries_again (front ++ spelled_entry entry) entries rest (k + 1) next fit.1)

-- ---- a page

pub over : (front rest bytes : List ℕ) (at : ℕ) → length front ≡ at → overwritten (front ++ rest) at bytes ≡ front ++ bytes ++ drop (length bytes) rest
over front rest bytes at len =
    (λ i. take_at front rest at len i ++ bytes ++ drop (sym len i + length bytes) (front ++ rest))
    ∙ ap (λ (bs : List ℕ). front ++ bytes ++ bs) (drop-append-add front rest (length bytes))

zeros_append : (n m : ℕ) → zero_bytes (n + m) ≡ zero_bytes n ++ zero_bytes m
unfolding zero_bytes
zeros_append zero m = let e : 0 + m ≡ m = omega arith in ap (λ k. replicate k 0) e
zeros_append (suc n) m = let e : suc n + m ≡ suc (n + m) = omega arith in ap (λ k. replicate k 0) e ∙ ap (λ (bs : List ℕ). 0 ∷ bs) (zeros_append n m)

-- a page of zeros with a header
headed : (page new : List ℕ) (count : ℕ) → page ≡ zero_bytes 8192 → new ≡ overwritten page 0 (header count) → new ≡ header count ++ zero_bytes 8176
headed page new count zeros is =
    is ∙ ap (λ (bs : List ℕ). overwritten bs 0 (header count)) (zeros ∙ zeros_append 16 8176)
    ∙ ap (λ (n : ℕ). header count ++ drop n (zero_bytes 16 ++ zero_bytes 8176)) (let e : 0 + length (header count) ≡ 16 = omega (arith, header_long count) in e)
    ∙ ap (λ (bs : List ℕ). header count ++ bs) (drop_at (zero_bytes 16) (zero_bytes 8176) 16 (length-zero_bytes 16))

pub one_more : (entries : List IndexEntry) (k : ℕ) (entry : IndexEntry) (old now : List ℕ) → k < length entries → entry ≡ get_or entries k entry → length old ≡ 8192 → length entries ≤ 1022
    → now ≡ take 16 old ++ spelling (take k entries) ++ drop (16 + 8 * k) old
    → overwritten now (16 + 8 * k) (spelled_entry entry) ≡ take 16 old ++ spelling (take (k + 1) entries) ++ drop (16 + 8 * (k + 1)) old
one_more entries k entry old now below item whole few is =
    let front = take 16 old ++ spelling (take k entries) in
    let len : length front ≡ 16 + 8 * k = omega (arith, length-append (take 16 old) (spelling (take k entries)), length-take 16 old, whole, spelling_long (take k entries), length-take k entries, below) in
    let next : 16 + 8 * k + length (spelled_entry entry) ≡ 16 + 8 * (k + 1) = omega (arith, entry_long entry) in
    let more : spelling (take k entries) ++ spelled_entry entry ≡ spelling (take (k + 1) entries) =
    ap (λ (bs : List ℕ). spelling (take k entries) ++ bs) (sym (append-nil (spelled_entry entry))) ∙ sym (spelling-append (take k entries) (entry ∷ []))
    ∙ ap spelling (ap (λ e. take k entries ++ e ∷ []) item ∙ sym (take_more entries k entry below)) in
    ap (λ (bs : List ℕ). overwritten bs (16 + 8 * k) (spelled_entry entry)) is ∙ over front (drop (16 + 8 * k) old) (spelled_entry entry) (16 + 8 * k) len
    ∙ ap (λ (bs : List ℕ). front ++ spelled_entry entry ++ bs) (drop-drop (length (spelled_entry entry)) (16 + 8 * k) old ∙ ap (λ n. drop n old) next)
    ∙ ap (λ (bs : List ℕ). bs ++ drop (16 + 8 * (k + 1)) old) (append_assoc (take 16 old) (spelling (take k entries)) (spelled_entry entry) ∙ ap (λ (bs : List ℕ). take 16 old ++ bs) more)

pub all_more : (P : IndexEntry → Type 0) (xs : List IndexEntry) (x : IndexEntry) → AllByRecursion P xs → P x → AllByRecursion P (xs ++ x ∷ [])
all_more P [] x all one = (one, tt)
all_more P (y ∷ xs) x all one = (all.0, all_more P xs x all.1 one)

pub fit_more : (entries : List IndexEntry) (k : ℕ) (entry : IndexEntry) → k < length entries → entry ≡ get_or entries k entry → AllByRecursion Fits (take k entries) → Fits entry → AllByRecursion Fits (take (k + 1) entries)
fit_more entries k entry below item all one =
    subst (AllByRecursion Fits) (ap (λ e. take k entries ++ e ∷ []) item ∙ sym (take_more entries k entry below)) (all_more Fits (take k entries) entry all one)

pub page_made : (entries : List IndexEntry) (zeros head page : List ℕ) → length entries ≤ 1022 → zeros ≡ zero_bytes 8192 → head ≡ overwritten zeros 0 (header (length entries))
    → page ≡ take 16 head ++ spelling entries ++ drop (16 + 8 * length entries) head → AllByRecursion Fits entries → IsPageOf entries page
page_made entries zeros head page few are_zeros is_head is fit = record {
  value = value;
  good = record { whole = whole; magic = at 0; count = subst (λ n. n ≤ 1022) (sym (at 1)) few };
  read = ap (entries_from page 0) (at 1) ∙ ap (λ (bs : List ℕ). entries_from bs 0 (length entries)) grouped ∙ entries_again (header n) entries rest 0 (header_long n) fit;
}
  where
    n : ℕ
    n = length entries

    rest : List ℕ
    rest = zero_bytes (8176 - 8 * n)

    head_is : head ≡ header n ++ zero_bytes 8176
    head_is = headed zeros head n are_zeros is_head

    left : 8 * n + (8176 - 8 * n) ≡ 8176
    left = omega (arith, few)

    tail : drop (16 + 8 * n) head ≡ rest
    tail =
        ap (drop (16 + 8 * n)) head_is ∙ sym (drop-drop (8 * n) 16 (header n ++ zero_bytes 8176)) ∙ ap (drop (8 * n)) (drop_at (header n) (zero_bytes 8176) 16 (header_long n))
        ∙ ap (λ k. drop (8 * n) (zero_bytes k)) (sym left) ∙ ap (drop (8 * n)) (zeros_append (8 * n) (8176 - 8 * n)) ∙ drop_at (zero_bytes (8 * n)) rest (8 * n) (length-zero_bytes (8 * n))

    value : page ≡ index_page_of entries
    value = is ∙ (λ i. take 16 (head_is i) ++ spelling entries ++ tail i) ∙ ap (λ (bs : List ℕ). bs ++ spelling entries ++ rest) (take_at (header n) (zero_bytes 8176) 16 (header_long n))

    grouped : page ≡ header n ++ (spelling entries ++ rest)
    grouped = value ∙ append_assoc (header n) (spelling entries) rest

    whole : length page ≡ 8192
    whole = omega (arith, ap length grouped, length-append (header n) (spelling entries ++ rest), length-append (spelling entries) rest, header_long n, spelling_long entries, length-zero_bytes (8176 - 8 * n), few)

    fit_header : Fit header_widths (0x58524944 ∷ n ∷ 0 ∷ [])
    fit_header = ((omega arith, omega arith), omega arith, ((omega arith, omega arith), omega (arith, few), ((omega arith, omega arith), omega arith, tt)))

    back : decoded header_widths 0 page ≡ 0x58524944 ∷ n ∷ 0 ∷ []
    back = ap (decoded header_widths 0) grouped ∙ read_again header_widths (0x58524944 ∷ n ∷ 0 ∷ []) [] (spelling entries ++ rest) 0 fit_header refl

    at : (k : ℕ) → get_or (decoded header_widths 0 page) k 0 ≡ get_or (0x58524944 ∷ n ∷ 0 ∷ []) k 0
    at k = ap (λ ns. get_or ns k 0) back
