-- Where paths lead, and the list of them that grows at its end.
use Rattle.std.proofs.Common.{◌≡◌, ◌∙◌, ◌⊎◌, inl, inr, ℕ, zero, suc, ◌+◌, ◌<◌, ◌≤◌, Bool, true, false, cond, List, [], ◌∷◌, ◌++◌, length, Option, Some, None, Contains, slice_get, slice_index_or, map, refl, sym, ap, subst, arith, ⊎_elim}
use Rattle.std.proofs.lemmas.Bool.{cases_Bool, cases_lt, or_left, or_right}
use Rattle.std.proofs.lemmas.Option.{slice_get-get_or, slice_get_within}
use Rattle.std.specs.Option.{option_and_then}
use Rattle.directory_pages.specs.domain_base.declared.place.Kind.{Kind}
use Rattle.directory_pages.specs.domain_base.declared.place.Tag.{Tag}
use Rattle.directory_pages.specs.Rows.{found, has_name, is_named}
use Rattle.directory_pages.specs.declared.row.Row.{Row}
use Rattle.directory_pages.proofs.Places.{is_named_so, named_is}
use Rattle.directory_rows.specs.Directory.{NamesOnce}
use Rattle.fileset_values.specs.Orders.{Name, Path}
use Rattle.directory_rows.specs.Ways.{AddsBelow, AreAllLed, HaveNamesOnce, RowsBy, below, led_by}
use Rattle.directory_rows.specs.declared.led.Led.{Led}

-- ---- lists

pub same_some : {X : Type 0} (x y : X) → Some x ≡ Some y → x ≡ y
same_some x y is = cc

none_some : {P X : Type 0} (x : X) → None ≡ Some x → P
none_some x is = absurd (cc)

pub get_front : {X : Type 0} (xs ys : List X) (k : ℕ) (x : X) → slice_get xs k ≡ Some x → slice_get (xs ++ ys) k ≡ Some x
get_front [] ys k x is = none_some x is
get_front (y ∷ xs) ys zero x is = is
get_front (y ∷ xs) ys (suc k) x is = get_front xs ys k x is

-- what stands in two lists stands in one of them
pub get_parted : {X : Type 0} (xs ys : List X) (k : ℕ) (x : X) → slice_get (xs ++ ys) k ≡ Some x → (slice_get xs k ≡ Some x) ⊎ ((j : ℕ) × (slice_get ys j ≡ Some x))
get_parted [] ys k x is = inr (k, is)
get_parted (y ∷ xs) ys zero x is = inl is
get_parted (y ∷ xs) ys (suc k) x is = get_parted xs ys k x is

pub get_behind : {X : Type 0} (xs ys : List X) (k : ℕ) (x : X) → slice_get ys k ≡ Some x → (i : ℕ) × (slice_get (xs ++ ys) i ≡ Some x)
get_behind [] ys k x is = (k, is)
get_behind (y ∷ xs) ys k x is = let more = get_behind xs ys k x is in (suc more.0, more.1)

get_map : {X Y : Type 0} (f : X → Y) (xs : List X) (k : ℕ) (x : X) → slice_get xs k ≡ Some x → slice_get (map f xs) k ≡ Some (f x)
get_map f [] k x is = none_some x is
get_map f (y ∷ xs) zero x is = ap (λ z. Some (f z)) (same_some y x is)
get_map f (y ∷ xs) (suc k) x is = get_map f xs k x is

get_mapped : {X Y : Type 0} (f : X → Y) (xs : List X) (k : ℕ) (y : Y) → slice_get (map f xs) k ≡ Some y → (x : X) × (slice_get xs k ≡ Some x) × (f x ≡ y)
get_mapped f [] k y is = none_some y is
get_mapped f (x ∷ xs) zero y is = (x, refl, same_some (f x) y is)
get_mapped f (x ∷ xs) (suc k) y is = get_mapped f xs k y is

pub contains_at : {X : Type 0} (xs : List X) (k : ℕ) (x : X) → slice_get xs k ≡ Some x → Contains xs x
contains_at xs k x is =
    let within = slice_get_within xs k x is in
    (k, within, same_some (slice_index_or xs k x) x (sym (slice_get-get_or xs k x within) ∙ is))

pub at_contains : {X : Type 0} (xs : List X) (x : X) → Contains xs x → (k : ℕ) × (slice_get xs k ≡ Some x)
at_contains xs x (k, within, is) = (k, slice_get-get_or xs k x within ∙ ap Some is)

-- ---- rows by their names

-- a row of a directory in which no name stands twice is the one that its name finds
pub named_at : (name : List ℕ) (rows : List Row) (k : ℕ) (row : Row) → slice_get rows k ≡ Some row → row.name ≡ name → is_named name rows ≡ true
named_at name [] k row is named = none_some row is
named_at name (r ∷ rs) zero row is named = or_left (has_name name r) (is_named name rs) (is_named_so name r (ap (λ (x : Row). x.name) (same_some r row is) ∙ named))
named_at name (r ∷ rs) (suc k) row is named = or_right (has_name name r) (is_named name rs) (named_at name rs k row is named)

not_both : (b : Bool) → b ≡ false → b ≡ true → ⊥
not_both b untrue sure = let e : false ≡ true = sym untrue ∙ sure in absurd (cc)

pub row_found : (rows : List Row) (k : ℕ) (row : Row) → NamesOnce rows → slice_get rows k ≡ Some row → found row.name rows ≡ Some (row.tag, row.kind)
row_found [] k row once is = none_some row is
row_found (r ∷ rs) zero row once is =
    let same : r ≡ row = same_some r row is in
    ap (λ b. cond b (Some (r.tag, r.kind)) (found row.name rs)) (is_named_so row.name r (ap (λ (x : Row). x.name) same)) ∙ ap (λ (x : Row). Some (x.tag, x.kind)) same
row_found (r ∷ rs) (suc k) row once is =
    ap (λ b. cond b (Some (r.tag, r.kind)) (found row.name rs))
    (⊎_elim (λ same. absurd (not_both (is_named r.name rs) once.0 (named_at r.name rs k row is (sym (named_is row.name r same))))) (λ other. other) (cases_Bool (has_name row.name r)))
    ∙ row_found rs k row once.1 is

-- what a name finds is a row of that name
pub found_row : (name : List ℕ) (rows : List Row) (tag : Tag) (of : Kind) → found name rows ≡ Some (tag, of) → (k : ℕ) × (row : Row) × (slice_get rows k ≡ Some row) × (row.name ≡ name) × (row.tag ≡ tag) × (row.kind ≡ of)
found_row name [] tag of is = none_some (tag, of) is
found_row name (r ∷ rs) tag of is = by_test (has_name name r) refl is (found_row name rs tag of)
  where
    by_test : (b : Bool) → has_name name r ≡ b → cond b (Some (r.tag, r.kind)) (found name rs) ≡ Some (tag, of)
        → (found name rs ≡ Some (tag, of) → (k : ℕ) × (row : Row) × (slice_get rs k ≡ Some row) × (row.name ≡ name) × (row.tag ≡ tag) × (row.kind ≡ of))
        → (k : ℕ) × (row : Row) × (slice_get (r ∷ rs) k ≡ Some row) × (row.name ≡ name) × (row.tag ≡ tag) × (row.kind ≡ of)
    by_test true named is later =
        let same : (r.tag, r.kind) ≡ (tag, of) = same_some (r.tag, r.kind) (tag, of) is in
        (0, r, refl, named_is name r named, ap (λ (p : Tag × Kind). p.0) same, ap (λ (p : Tag × Kind). p.1) same)
    by_test false other is later = let more = later is in (suc more.0, more.1, more.2, more.3, more.4, more.5)

-- ---- paths

led_append : (rows : RowsBy) (from : Tag × Kind) (path more : Path) → led_by rows from (path ++ more) ≡ option_and_then (λ led. led_by rows led more) (led_by rows from path)
led_append rows from [] more = refl
led_append rows from (name ∷ path) more = by_row (found name (rows from.0)) (λ row. led_append rows row path more)
  where
    by_row : (o : Option (Tag × Kind)) → ((row : Tag × Kind) → led_by rows row (path ++ more) ≡ option_and_then (λ led. led_by rows led more) (led_by rows row path))
        → option_and_then (λ row. led_by rows row (path ++ more)) o ≡ option_and_then (λ led. led_by rows led more) (option_and_then (λ row. led_by rows row path) o)
    by_row None hypothesis = refl
    by_row (Some row) hypothesis = hypothesis row

-- one name more leads to the row of that name
pub led_name : (rows : RowsBy) (from : Tag × Kind) (path : Path) (name : Name) → led_by rows from (path ++ name ∷ []) ≡ option_and_then (λ led. found name (rows led.0)) (led_by rows from path)
led_name rows from path name = led_append rows from path (name ∷ []) ∙ each (led_by rows from path)
  where
    one : (o : Option (Tag × Kind)) → option_and_then (λ row. Some row) o ≡ o
    one None = refl
    one (Some row) = refl

    each : (o : Option (Tag × Kind)) → option_and_then (λ led. led_by rows led (name ∷ [])) o ≡ option_and_then (λ led. found name (rows led.0)) o
    each None = refl
    each (Some led) = one (found name (rows led.0))

-- ---- the list

-- each one leads where it says; the first is the start; and what stands in those before a place
-- stands in the list, too
pub record IsListed (rows : RowsBy) (from : Tag × Kind) (at : ℕ) (list : List Led) : Type 0 where
  pub within : at ≤ length list
  pub begins : slice_get list 0 ≡ Some (record { path = []; tag = from.0; kind = from.1 })
  pub leads : (k : ℕ) (led : Led) → slice_get list k ≡ Some led → led_by rows from led.path ≡ Some (led.tag, led.kind)
  pub goes_on : (k : ℕ) (led : Led) (j : ℕ) (row : Row) → k < at → slice_get list k ≡ Some led → slice_get (rows led.tag) j ≡ Some row → (i : ℕ) × (slice_get list i ≡ Some (below led.path row))

pub list_begins : (rows : RowsBy) (from : Tag × Kind) (list : List Led) → list ≡ (record { path = []; tag = from.0; kind = from.1 }) ∷ [] → IsListed rows from 0 list
list_begins rows from list is = subst (IsListed rows from 0) (sym is) (record {
  within = omega arith;
  begins = refl;
  leads = first;
  goes_on = λ k led j row low. absurd (omega (arith, low));
})
  where
    first : (k : ℕ) (led : Led) → slice_get ((record { path = []; tag = from.0; kind = from.1 }) ∷ []) k ≡ Some led → led_by rows from led.path ≡ Some (led.tag, led.kind)
    first zero led is = subst (λ (l : Led). led_by rows from l.path ≡ Some (l.tag, l.kind)) (same_some (record { path = []; tag = from.0; kind = from.1 }) led is) refl
    first (suc k) led is = none_some led is

module _ (rows : RowsBy) (from : Tag × Kind) (once : HaveNamesOnce rows) where
  -- what stands in one of them leads where it says
  below_leads : (led : Led) → led_by rows from led.path ≡ Some (led.tag, led.kind) → (j : ℕ) (row : Row) → slice_get (rows led.tag) j ≡ Some row → led_by rows from (led.path ++ row.name ∷ []) ≡ Some (row.tag, row.kind)
  below_leads led leads j row there =
      led_name rows from led.path row.name ∙ ap (option_and_then (λ (l : Tag × Kind). found row.name (rows l.0))) leads ∙ row_found (rows led.tag) j row (once led.tag) there

  -- with what stands in the next one the list is gone through one further
  module _ (at : ℕ) (old : List Led) (is : IsListed rows from at old) (within : at < length old) (led : Led) (there : slice_get old at ≡ Some led) where
    abbrev more : List Led
    more = old ++ map (below led.path) (rows led.tag)

    leads_more : (k : ℕ) (l : Led) → slice_get more k ≡ Some l → led_by rows from l.path ≡ Some (l.tag, l.kind)
    leads_more k l at_k = ⊎_elim (λ front. is.leads k l front) (λ later. new_leads later.0 later.1) (get_parted old (map (below led.path) (rows led.tag)) k l at_k)
      where
        new_leads : (j : ℕ) → slice_get (map (below led.path) (rows led.tag)) j ≡ Some l → led_by rows from l.path ≡ Some (l.tag, l.kind)
        new_leads j at_j =
            let mapped = get_mapped (below led.path) (rows led.tag) j l at_j in
            subst (λ (x : Led). led_by rows from x.path ≡ Some (x.tag, x.kind)) mapped.2 (below_leads led (is.leads at led there) j mapped.0 mapped.1)

    -- one in front is the one that was there
    was : (k : ℕ) (l : Led) → k < length old → slice_get more k ≡ Some l → slice_get old k ≡ Some l
    was k l low at_k =
        let one : Led = slice_index_or old k l in
        let here : slice_get old k ≡ Some one = slice_get-get_or old k l low in
        here ∙ sym (get_front old (map (below led.path) (rows led.tag)) k one here) ∙ at_k

    goes_on_more : (k : ℕ) (l : Led) (j : ℕ) (row : Row) → k < at + 1 → slice_get more k ≡ Some l → slice_get (rows l.tag) j ≡ Some row → (i : ℕ) × (slice_get more i ≡ Some (below l.path row))
    goes_on_more k l j row low at_k at_j =
        ⊎_elim (λ less.
        let one = is.goes_on k l j row less (was k l (omega (arith, less, within)) at_k) at_j in
        (one.0, get_front old (map (below led.path) (rows led.tag)) one.0 (below l.path row) one.1))
        (λ high.
        let last : k ≡ at = omega (arith, high, low) in
        let one : led ≡ l = same_some led l (sym there ∙ ap (slice_get old) (sym last) ∙ was k l (omega (arith, last, within)) at_k) in
        let row_there : slice_get (rows led.tag) j ≡ Some row = subst (λ (x : Led). slice_get (rows x.tag) j ≡ Some row) (sym one) at_j in
        let behind = get_behind old (map (below led.path) (rows led.tag)) j (below led.path row) (get_map (below led.path) (rows led.tag) j row row_there) in
        (behind.0, behind.1 ∙ ap (λ (x : Led). Some (below x.path row)) one)) (cases_lt k at)

    behind_length : (xs ys : List Led) → length xs ≤ length (xs ++ ys)
    behind_length [] ys = omega arith
    behind_length (x ∷ xs) ys = let less = behind_length xs ys in omega (arith, less)

    listed_more : IsListed rows from (at + 1) more
    listed_more = record {
      within = omega (arith, within, behind_length old (map (below led.path) (rows led.tag)));
      begins = get_front old (map (below led.path) (rows led.tag)) 0 (record { path = []; tag = from.0; kind = from.1 }) is.begins;
      leads = leads_more;
      goes_on = goes_on_more;
    }

  pub list_on : (at : ℕ) (old new : List Led) → IsListed rows from at old → at < length old → AddsBelow rows at old new → IsListed rows from (at + 1) new
  list_on at old new is within adds =
      let led : Led = slice_index_or old at (record { path = []; tag = from.0; kind = from.1 }) in
      let there : slice_get old at ≡ Some led = slice_get-get_or old at (record { path = []; tag = from.0; kind = from.1 }) within in
      subst (IsListed rows from (at + 1)) (sym (adds led there)) (listed_more at old is within led there)

  -- where all were gone through, each path that leads somewhere stands in the list
  module _ (list : List Led) (is : IsListed rows from (length list) list) where
    -- path after path, by one name more
    all_led : (front rest : Path) (tag : Tag) (of : Kind) (k : ℕ) → slice_get list k ≡ Some (record { path = front; tag = tag; kind = of })
        → (end : Tag) (kind : Kind) → led_by rows (tag, of) rest ≡ Some (end, kind) → (i : ℕ) × (slice_get list i ≡ Some (record { path = front ++ rest; tag = end; kind = kind }))
    all_led front [] tag of k at end kind leads =
        let same : (tag, of) ≡ (end, kind) = same_some (tag, of) (end, kind) leads in
        (k, at ∙ (λ i. Some (record { path = whole front i; tag = (same i).0; kind = (same i).1 })))
      where
        whole : (p : Path) → p ≡ p ++ []
        whole [] = refl
        whole (n ∷ p) = ap (λ (q : Path). n ∷ q) (whole p)
    all_led front (name ∷ rest) tag of k at end kind leads =
        by_row (found name (rows tag)) refl leads (λ next next_kind k at leads. all_led (front ++ name ∷ []) rest next next_kind k at end kind leads)
      where
        parts : (p : Path) → (p ++ name ∷ []) ++ rest ≡ p ++ name ∷ rest
        parts [] = refl
        parts (n ∷ p) = ap (λ (q : Path). n ∷ q) (parts p)

        by_row : (o : Option (Tag × Kind)) → found name (rows tag) ≡ o → option_and_then (λ row. led_by rows row rest) o ≡ Some (end, kind)
            → ((next : Tag) (next_kind : Kind) (k : ℕ) → slice_get list k ≡ Some (record { path = front ++ name ∷ []; tag = next; kind = next_kind }) → led_by rows (next, next_kind) rest ≡ Some (end, kind)
            → (i : ℕ) × (slice_get list i ≡ Some (record { path = (front ++ name ∷ []) ++ rest; tag = end; kind = kind })))
            → (i : ℕ) × (slice_get list i ≡ Some (record { path = front ++ name ∷ rest; tag = end; kind = kind }))
        by_row None none leads later = none_some (end, kind) leads
        by_row (Some (next, next_kind)) finds leads later =
            let row = found_row name (rows tag) next next_kind finds in
            let on = is.goes_on k (record { path = front; tag = tag; kind = of }) row.0 row.1 (slice_get_within list k (record { path = front; tag = tag; kind = of }) at) at row.2 in
            let there : slice_get list on.0 ≡ Some (record { path = front ++ name ∷ []; tag = next; kind = next_kind }) =
            on.1 ∙ (λ i. Some (record { path = front ++ row.3 i ∷ []; tag = row.4 i; kind = row.5 i })) in
            let found_on = later next next_kind on.0 there leads in
            (found_on.0, found_on.1 ∙ ap (λ (p : Path). Some (record { path = p; tag = end; kind = kind })) (parts front))

    pub are_all_led : AreAllLed rows from list
    are_all_led = record {
      each = λ led among. let k = at_contains list led among in is.leads k.0 led k.1;
      all = λ path tag of leads.
          let one = all_led [] path from.0 from.1 0 is.begins tag of leads in
          contains_at list one.0 (record { path = path; tag = tag; kind = of }) one.1;
    }
