-- How many pages a file has once it is written or truncated.
use Rattle.std.proofs.Common.{◌≡◌, ◌∙◌, ◌+◌, ◌*◌, ◌-◌, ◌/◌, ◌%◌, ◌≤◌, ◌==◌, ℕ, zero, suc, Any, Bool, true, false, cond, count_by, List, [], Option, Some, None, is_some, length, map, nat_lt, not, refl, sym, ap, arith, true≢false, ⊎_elim}
use Rattle.std.specs.Cmp.{nat_cmp_total}
use Rattle.std.specs.FinMap as maps
use Rattle.std.specs.FinMap.{contains_key, get, insert, len, retain_keys}
use Rattle.std.specs.List.{range_with_len}
use Rattle.std.specs.Option.{option_map_or}
use Rattle.domain_memory.specs.domain_base.Limits.{file_pages}
use Rattle.domain_memory.specs.domain_base.Page.{overwritten, zero_bytes}
use Rattle.domain_memory.specs.legal_histories.Valid.{HasWholePages}
use Rattle.domain_memory.proofs.OfFilesetValues.MapLemmas.{get-insert_other, got-insert}
use Rattle.domain_memory.proofs.OfFilesetModel.PageLemmas.{count_by-range_with_len_more}
use Rattle.domain_memory.specs.fileset_model.Apply.{truncated_node, written_node}
use Rattle.domain_memory.specs.fileset_model.Pages.{Pages, absent_pages, page_after, pages_of, truncated, with_pages, written}
use Rattle.domain_memory.specs.fileset_model.Paths.{is_directory}
use Rattle.domain_memory.specs.fileset_model.Usage.{blocks_of}
use Rattle.domain_memory.specs.fileset_model.declared.node.Node.{Node}
use Rattle.domain_memory.specs.fileset_model.declared.node.Node.TheVariants.{Directory, File}
use Rattle.set_standing.proofs.Cut.{get-cut}
use Rattle.file_changes.proofs.Counted.{count_parts, count_same, keys_counted}
use Rattle.file_changes.specs.Reading.{pages_in}

-- ---- written

one_put : (pages : Pages) (q : ℕ) (page : List ℕ) → len (insert pages q page) ≡ len pages + cond (not (contains_key pages q)) 1 0
one_put pages q page = maps.len-insert nat_cmp_total pages q page ∙ by_key (contains_key pages q)
  where
    by_key : (b : Bool) → cond b (len pages) (len pages + 1) ≡ len pages + cond (not b) 1 0
    by_key true = omega arith
    by_key false = refl

zero_more : (n : ℕ) → 0 + n ≡ n
zero_more n = omega arith

count_first : (p : ℕ → Bool) (first n : ℕ) → count_by p (range_with_len first (suc n)) ≡ cond (p first) 1 0 + count_by p (range_with_len (first + 1) n)
count_first p first n =
    let one : count_by p (range_with_len first 1) ≡ cond (p first) 1 0 = count_by-range_with_len_more p first 0 first (omega arith) ∙ zero_more (cond (p first) 1 0) in
    count_parts p first 1 n (suc n) (omega arith) ∙ ap (λ k. k + count_by p (range_with_len (first + 1) n)) one

puts_counted : (f : ℕ → List ℕ) (first n : ℕ) (pages : Pages) → len (with_pages (map (λ q. (q, f q)) (range_with_len first n)) pages) ≡ len pages + count_by (λ q. not (contains_key pages q)) (range_with_len first n)
puts_counted f first zero pages = omega arith
puts_counted f first (suc n) pages =
    let rest = puts_counted f (first + 1) n (insert pages first (f first)) in
    let put = one_put pages first (f first) in
    let same = count_same (λ q. not (contains_key (insert pages first (f first)) q)) (λ q. not (contains_key pages q)) (first + 1) n
    (λ q low high. ap (λ o. not (is_some o)) (get-insert_other nat_cmp_total maps.nat_cmp-IsAntisymmetric pages first (f first) q (λ here. omega (arith, low, here)))) in
    let all = count_first (λ q. not (contains_key pages q)) first n in
    omega (arith, rest, put, same, all)

-- the number of the first page of a write, and how many they are
abbrev first_of : ℕ → ℕ
first_of offset = offset / 8192

abbrev count_of : ℕ → ℕ → ℕ
count_of offset len = suc ((offset + len - 1) / 8192) - offset / 8192

-- those that were absent are there too
len_written : (pages : Pages) (offset : ℕ) (bytes : List ℕ) → len (written pages offset bytes) ≡ len pages + absent_pages pages offset (length bytes)
len_written pages offset bytes = by_len (length bytes == 0)
  where
    by_len : (b : Bool) → len (with_pages (map (λ q. (q, page_after pages offset bytes q)) (cond b [] (range_with_len (first_of offset) (count_of offset (length bytes))))) pages)
        ≡ len pages + count_by (λ q. not (contains_key pages q)) (cond b [] (range_with_len (first_of offset) (count_of offset (length bytes))))
    by_len true = puts_counted (page_after pages offset bytes) (first_of offset) 0 pages
    by_len false = puts_counted (page_after pages offset bytes) (first_of offset) (count_of offset (length bytes)) pages

pub blocks_written : (offset : ℕ) (bytes : List ℕ) (node : Node) → is_directory node ≡ false → blocks_of (written_node offset bytes node) ≡ blocks_of node + 16 * absent_pages (pages_in node) offset (length bytes)
blocks_written offset bytes (File uid gid size logged pages) is = let more = len_written pages offset bytes in omega (arith, more)
blocks_written offset bytes (Directory uid gid) is = absurd (true≢false is)

-- ---- truncated

count_within : (p r : ℕ → Bool) (first n : ℕ) → ((q : ℕ) → p q ≡ true → r q ≡ true) → count_by p (range_with_len first n) ≤ count_by r (range_with_len first n)
count_within p r first zero within = omega arith
count_within p r first (suc n) within =
    let one = count_first p first n in
    let other = count_first r first n in
    let rest = count_within p r (first + 1) n within in
    let here = by_key (p first) (r first) (within first) in
    omega (arith, one, other, rest, here)
  where
    by_key : (a b : Bool) → (a ≡ true → b ≡ true) → cond a 1 0 ≤ cond b 1 0
    by_key false b both = omega arith
    by_key true true both = omega arith
    by_key true false both = absurd (true≢false (sym (both refl)))

len_within : (bound : ℕ) (some all : Pages) → ((q : ℕ) → contains_key some q ≡ true → contains_key all q ≡ true) → ((q : ℕ) → bound ≤ q → contains_key all q ≡ false) → len some ≤ len all
len_within bound some all within far =
    let less = keys_counted (contains_key some) bound some (λ q below. refl) (λ q past. by_key q (contains_key some q) refl (far q past)) in
    let more = keys_counted (contains_key all) bound all (λ q below. refl) far in
    let counted = count_within (contains_key some) (contains_key all) 0 bound within in
    omega (arith, less, more, counted)
  where
    by_key : (q : ℕ) (b : Bool) → contains_key some q ≡ b → contains_key all q ≡ false → b ≡ false
    by_key q false is none = refl
    by_key q true is none = absurd (true≢false (sym (within q is) ∙ none))

abbrev kept : ℕ → Pages → Pages
kept size pages = retain_keys pages (λ p. nat_lt (p * 8192) size)

abbrev cleared : ℕ → List ℕ → List ℕ
cleared size page = overwritten page (size % 8192) (zero_bytes (8192 - size % 8192))

kept_had : (size : ℕ) (pages : Pages) (q : ℕ) → contains_key (kept size pages) q ≡ true → contains_key pages q ≡ true
kept_had size pages q is = by_end (nat_lt (q * 8192) size) (sym (ap is_some (get-cut size pages q)) ∙ is)
  where
    by_end : (b : Bool) → is_some (cond b (get pages q) None) ≡ true → contains_key pages q ≡ true
    by_end true there = there
    by_end false there = absurd (true≢false (sym there))

cut_had : (size : ℕ) (pages : Pages) (q : ℕ) → contains_key (truncated pages size) q ≡ true → contains_key pages q ≡ true
cut_had size pages q is = by_last (get (kept size pages) (size / 8192)) refl is
  where
    by_last : (o : Option (List ℕ)) → get (kept size pages) (size / 8192) ≡ o → contains_key (option_map_or (λ page. insert (kept size pages) (size / 8192) (cleared size page)) o (kept size pages)) q ≡ true → contains_key pages q ≡ true
    by_last None none there = kept_had size pages q there
    by_last (Some page) last there = ⊎_elim
        (λ here. kept_had size pages q (ap (contains_key (kept size pages)) here.0 ∙ ap is_some last))
        (λ other. kept_had size pages q (ap is_some other.1 ∙ there))
        (got-insert nat_cmp_total maps.nat_cmp-IsAntisymmetric (kept size pages) (size / 8192) (cleared size page) q (get (insert (kept size pages) (size / 8192) (cleared size page)) q) refl)

-- a file that is truncated has no more
len_cut : (size : ℕ) (node : Node) → HasWholePages node → len (pages_in (truncated_node size node)) ≤ len (pages_in node)
len_cut size (File uid gid old logged pages) whole = len_within file_pages (truncated pages size) pages (cut_had size pages) (λ q past. by_page q (get pages q) refl past)
  where
    by_page : (q : ℕ) (o : Option (List ℕ)) → get pages q ≡ o → file_pages ≤ q → is_some o ≡ false
    by_page q None none past = refl
    by_page q (Some page) there past = let small = (whole q page there).0 in absurd (omega (arith, small, past))
len_cut size (Directory uid gid) whole = omega arith

-- and so many blocks are gone
pub blocks_gone : (size : ℕ) (node : Node) → HasWholePages node → (before after gone : ℕ) → before ≡ len (pages_in node) → after ≡ len (pages_in (truncated_node size node)) → gone ≡ 16 * (before - after) → blocks_of node ≡ blocks_of (truncated_node size node) + gone
blocks_gone size (File uid gid old logged pages) whole before after gone was is less = let fewer = len_cut size (File uid gid old logged pages) whole in omega (arith, fewer, was, is, less)
blocks_gone size (Directory uid gid) whole before after gone was is less = omega (arith, was, is, less)

-- ---- absent

any_counted : (p : ℕ → Bool) (first n : ℕ) → 1 ≤ count_by p (range_with_len first n) → Any (λ q. p q ≡ true) (range_with_len first n)
any_counted p first zero some = absurd (omega (arith, some))
any_counted p first (suc n) some = by_first (p first) refl (λ none. any_counted p (first + 1) n (later none))
  where
    later : p first ≡ false → 1 ≤ count_by p (range_with_len (first + 1) n)
    later none =
        let nothing : cond (p first) 1 0 ≡ 0 = ap {B = ℕ} (λ b. cond b 1 0) none in
        omega (arith, some, count_first p first n, nothing)

    by_first : (b : Bool) → p first ≡ b → (p first ≡ false → Any (λ q. p q ≡ true) (range_with_len (first + 1) n)) → Any (λ q. p q ≡ true) (range_with_len first (suc n))
    by_first true is rest = (0, first, omega arith, refl, is)
    by_first false is rest =
        let found = rest is in
        (suc found.0, found.1, omega (arith, found.2), found.3, found.4)

-- where some of the pages of a write are absent, one of them is
pub some_absent : (pages : Pages) (offset len : ℕ) → 1 ≤ absent_pages pages offset len → Any (λ q. contains_key pages q ≡ false) (pages_of offset len)
some_absent pages offset len = by_len (len == 0)
  where
    missing : (b : Bool) → not b ≡ true → b ≡ false
    missing false is = refl
    missing true is = absurd (true≢false (sym is))

    by_len : (b : Bool) → 1 ≤ count_by (λ q. not (contains_key pages q)) (cond b [] (range_with_len (first_of offset) (count_of offset len))) → Any (λ q. contains_key pages q ≡ false) (cond b [] (range_with_len (first_of offset) (count_of offset len)))
    by_len true some = absurd (omega (arith, some))
    by_len false some =
        let found = any_counted (λ q. not (contains_key pages q)) (first_of offset) (count_of offset len) some in
        (found.0, found.1, found.2, found.3, missing (contains_key pages found.1) found.4)
