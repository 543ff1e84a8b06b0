-- How many paths lead to a tag in a set whose rows are those of a fileset.
use Rattle.std.proofs.Common.{◌≡◌, ◌≢◌, ◌∙◌, ◌⊎◌, inl, inr, ⊎_elim, ℕ, zero, suc, ◌+◌, ◌<◌, ◌≤◌, ◌==◌, Bool, true, false, cond, ◌&&◌, List, [], ◌∷◌, ◌++◌, length, count_by, sum_by, Option, Some, None, IfSome, IsSome, IsSomeAnd, is_some, Contains, slice_get, refl, sym, ap, subst, arith, true≢false}
use Rattle.std.proofs.lemmas.Bool.{and_parts, eq-eqb}
use Rattle.std.proofs.lemmas.List.Sums.{count_by-le-length, sum_by-cons}
use Rattle.std.specs.FinMap as map
use Rattle.std.specs.Option.{option_and_then, option_map, option_map_or}
use Rattle.plain_program.specs.domain_base.Limits.{max_links}
use Rattle.plain_program.specs.domain_base.declared.place.Kind.{Kind}
use Rattle.plain_program.specs.domain_base.declared.place.Kind.TheVariants.{Directory, File}
use Rattle.plain_program.specs.domain_base.declared.place.Tag.{Tag}
use Rattle.directory_rows.specs.page_store.Bitfiles.{Bitfile, Bitfiles, IsDirectory, same_tag}
use Rattle.directory_rows.specs.directory_pages.Rows.{found}
use Rattle.directory_rows.specs.Directory.{rows_in}
use Rattle.plain_program.proofs.OfLegalHistories.ValidCountLemmas.{no_paths}
use Rattle.plain_program.proofs.OfLegalHistories.ValidLemmas.{from_some_and, some_inj}
use Rattle.plain_program.proofs.OfFilesetValues.MapLemmas.{get-remove_other, got-remove}
use Rattle.plain_program.specs.fileset_model.Fileset.{Fileset}
use Rattle.plain_program.specs.fileset_values.Orders.{Name, Path, path_cmp, path_cmp-total, path_cmp-IsAntisymmetric}
use Rattle.plain_program.specs.fileset_model.Paths.{paths_to}
use Rattle.name_space.specs.Names.{is_directory_kind, led_from, led_to, number_of, root_tag}
use Rattle.name_space.proofs.Leads.{led-name}
use Rattle.name_space.proofs.Originals.{tag_itself, tags_same}
use Rattle.name_space.proofs.PathCounts.{count-gone, count_of}
use Rattle.directory_rows.specs.Ways.{AreAllLed, led_by}
use Rattle.directory_rows.specs.declared.led.Led.{Led}
use Rattle.directory_rows.proofs.AllLed.{at_contains, contains_at}
use Rattle.name_space.specs.Parts.{AreNodesOf, IsNodeFor, IsNodeThere, node_in}
use Rattle.name_space.specs.Rows.{AreAllThere, AreFilesetRows, AreNamesOf, IsCounted, NameIn, row_of}
use Rattle.name_space.specs.Trees.{AreAllOf, HasFewPaths, HasItsPaths, IsReached, IsTreeOf, IsWay, most_paths}
use Rattle.name_space.specs.declared.parts.TaggedNode.{TaggedNode}
use Rattle.name_space.proofs.OneWay.{led_by_row, led_kind, one_kind, one_number, one_way, same_fronts, same_names}

-- ---- lists of paths

pub led_same : (files : Bitfiles) (from : Tag × Kind) (path : Path) → led_by (rows_in files) from path ≡ led_from files from path
led_same files from [] = refl
led_same files from (name ∷ path) = ap (λ (f : Tag × Kind → Option (Tag × Kind)). option_and_then f (found name (rows_in files from.0))) (λ i row. led_same files row path i)

-- the first path in a list that leads to a directory
abbrev pub way_to : List Led → Tag → Option Path
way_to [] dir = None
way_to (one ∷ more) dir = cond (same_tag one.tag dir && is_directory_kind one.kind) (Some one.path) (way_to more dir)

pub kind_is : (of : Kind) → is_directory_kind of ≡ true → of ≡ Directory
kind_is Directory is = refl
kind_is File is = absurd cc

none_is_some : {P X : Type 0} (x : X) → None ≡ Some x → P
none_is_some x is = absurd (cc)

pub record IsFirst (list : List Led) (dir : Tag) (path : Path) : Type 0 where
  pub k : ℕ
  pub one : Led
  pub there : slice_get list k ≡ Some one
  pub path_is : one.path ≡ path
  pub tag : one.tag ≡ dir
  pub kind : one.kind ≡ Directory

way_is : (list : List Led) (dir : Tag) (path : Path) → way_to list dir ≡ Some path → IsFirst list dir path
way_is [] dir path is = none_is_some path is
way_is (one ∷ more) dir path is = by_test (same_tag one.tag dir && is_directory_kind one.kind) refl is (way_is more dir path)
  where
    by_test : (b : Bool) → same_tag one.tag dir && is_directory_kind one.kind ≡ b → cond b (Some one.path) (way_to more dir) ≡ Some path
        → (way_to more dir ≡ Some path → IsFirst more dir path) → IsFirst (one ∷ more) dir path
    by_test true same is later =
        let parts = and_parts (same_tag one.tag dir) (is_directory_kind one.kind) same in
        record { k = 0; one = one; there = refl; path_is = some_inj is; tag = tags_same one.tag dir parts.0; kind = kind_is one.kind parts.1 }
    by_test false other is later = let l = later is in record { k = suc l.k; one = l.one; there = l.there; path_is = l.path_is; tag = l.tag; kind = l.kind }

way_there : (list : List Led) (k : ℕ) (one : Led) → slice_get list k ≡ Some one → one.kind ≡ Directory → (path : Path) × (way_to list one.tag ≡ Some path)
way_there [] k one is kind = none_is_some one is
way_there (l ∷ more) zero one is kind =
    let same : l ≡ one = some_inj is in (
      l.path,
      ap (λ b. cond b (Some l.path) (way_to more one.tag))
          (ap (λ (x : Led). same_tag x.tag one.tag && is_directory_kind x.kind) same ∙ ap (λ b. b && is_directory_kind one.kind) (tag_itself one.tag) ∙ ap is_directory_kind kind),
    )
way_there (l ∷ more) (suc k) one is kind = by_test (same_tag l.tag one.tag && is_directory_kind l.kind) (way_there more k one is kind)
  where
    by_test : (b : Bool) → (path : Path) × (way_to more one.tag ≡ Some path) → (path : Path) × (cond b (Some l.path) (way_to more one.tag) ≡ Some path)
    by_test true later = (l.path, refl)
    by_test false later = later

-- ---- how many paths lead to a number

count_more : {X : Type 0} (p : X → Bool) (x : X) (xs : List X) → count_by p (x ∷ xs) ≡ cond (p x) 1 0 + count_by p xs
count_more p x xs = sum_by-cons (λ y. cond (p y) 1 0) x xs

all_counted : {X : Type 0} (p : X → Bool) (xs : List X) → ((k : ℕ) (x : X) → slice_get xs k ≡ Some x → p x ≡ true) → count_by p xs ≡ length xs
all_counted p [] all = refl
all_counted p (x ∷ xs) all =
    let rest = all_counted p xs (λ k y at. all (suc k) y at) in
    let first : count_by p (x ∷ xs) ≡ 1 + count_by p xs = count_more p x xs ∙ ap (λ b. cond b 1 0 + count_by p xs) (all 0 x refl) in
    omega (arith, first, rest)

pub itself : (number rest : ℕ) → cond (number == number) 1 0 + rest ≡ 1 + rest
itself number rest = ap (λ b. cond b 1 0 + rest) (eq-eqb number number refl)

-- a number to which one path leads
pub one_path_counts : (m : map.FinMap path_cmp ℕ) (path : Path) (number : ℕ) → map.get m path ≡ Some number
    → ((other : Path) → map.get m other ≡ Some number → other ≡ path) → count_of number (map.entries m) ≡ 1
one_path_counts m path number there only =
    let gone : count_of number (map.entries m) ≡ 1 + count_of number (map.entries (map.remove m path)) = count-gone m path number number there ∙ itself number (count_of number (map.entries (map.remove m path))) in
    let none = no_paths (map.remove m path) number (λ q at.
    let was = got-remove path_cmp-total path_cmp-IsAntisymmetric m path q number at in was.0 (only q was.1)) in
    omega (arith, gone, none)

-- names to each of which one path leads, at most: as many paths as names that have one
module _ (number : ℕ) (path_at : NameIn → Option Path) (apart : (a b : NameIn) (path : Path) → path_at a ≡ Some path → path_at b ≡ Some path → a ≡ b) where
  -- the path of each name leads to the number, and each that does is one's
  abbrev Leads : map.FinMap path_cmp ℕ → List NameIn → Type 0
  Leads n names = (k : ℕ) (at : NameIn) (path : Path) → slice_get names k ≡ Some at → path_at at ≡ Some path → map.get n path ≡ Some number

  abbrev Comes : map.FinMap path_cmp ℕ → List NameIn → Type 0
  Comes n names = (path : Path) → map.get n path ≡ Some number → (k : ℕ) × (at : NameIn) × (slice_get names k ≡ Some at) × (path_at at ≡ Some path)

  pub names_counted : (names : List NameIn) (m : map.FinMap path_cmp ℕ)
      → ((j k : ℕ) (at : NameIn) → slice_get names j ≡ Some at → slice_get names k ≡ Some at → j ≡ k)
      → Leads m names → Comes m names
      → count_of number (map.entries m) ≡ count_by (λ at. is_some (path_at at)) names
  names_counted [] m once to from = no_paths m number (λ q at. let f = from q at in none_is_some f.1 f.2)
  names_counted (x ∷ xs) m once to from = by_path (λ n. names_counted xs n once_more) (path_at x) refl ∙ sym (count_more (λ at. is_some (path_at at)) x xs)
    where
      once_more : (j k : ℕ) (at : NameIn) → slice_get xs j ≡ Some at → slice_get xs k ≡ Some at → j ≡ k
      once_more j k at here there = let e = once (suc j) (suc k) at here there in omega (arith, e)

      without : path_at x ≡ None → Comes m xs
      without none path leads = let f = from path leads in other f.0 f.1 f.2 f.3
        where
          other : (k : ℕ) (at : NameIn) → slice_get (x ∷ xs) k ≡ Some at → path_at at ≡ Some path → (k : ℕ) × (at : NameIn) × (slice_get xs k ≡ Some at) × (path_at at ≡ Some path)
          other zero at there is = none_is_some path (sym none ∙ ap path_at (some_inj there) ∙ is)
          other (suc k) at there is = (k, at, there, is)

      stay : (p : Path) → path_at x ≡ Some p → Leads (map.remove m p) xs
      stay p some k at path there is =
          get-remove_other path_cmp-total path_cmp-IsAntisymmetric m p path
          (λ same.
          let itself' : x ≡ at = apart x at p some (is ∙ ap Some same) in
          let twice : 0 ≡ suc k = once 0 (suc k) at (ap Some itself') there in
          absurd (omega (arith, twice)))
          ∙ to (suc k) at path there is

      others : (p : Path) → path_at x ≡ Some p → Comes (map.remove m p) xs
      others p some path leads =
          let was = got-remove path_cmp-total path_cmp-IsAntisymmetric m p path number leads in
          let f = from path was.1 in
          other was.0 f.0 f.1 f.2 f.3
        where
          other : path ≢ p → (k : ℕ) (at : NameIn) → slice_get (x ∷ xs) k ≡ Some at → path_at at ≡ Some path → (k : ℕ) × (at : NameIn) × (slice_get xs k ≡ Some at) × (path_at at ≡ Some path)
          other differs zero at there is = absurd (differs (some_inj (sym is ∙ ap path_at (sym (some_inj there)) ∙ some)))
          other differs (suc k) at there is = (k, at, there, is)

      by_path : ((n : map.FinMap path_cmp ℕ) → Leads n xs → Comes n xs → count_of number (map.entries n) ≡ count_by (λ at. is_some (path_at at)) xs)
          → (o : Option Path) → path_at x ≡ o → count_of number (map.entries m) ≡ cond (is_some (path_at x)) 1 0 + count_by (λ at. is_some (path_at at)) xs
      by_path again None none =
          let rest = again m (λ k at path there is. to (suc k) at path there is) (without none) in
          subst (λ o. count_of number (map.entries m) ≡ cond (is_some o) 1 0 + count_by (λ at. is_some (path_at at)) xs) (sym none) (omega (arith, rest))
      by_path again (Some p) some =
          let rest = again (map.remove m p) (stay p some) (others p some) in
          let gone : count_of number (map.entries m) ≡ 1 + count_of number (map.entries (map.remove m p)) = count-gone m p number number (to 0 x p refl some) ∙ itself number (count_of number (map.entries (map.remove m p))) in
          subst (λ o. count_of number (map.entries m) ≡ cond (is_some o) 1 0 + count_by (λ at. is_some (path_at at)) xs) (sym some) (omega (arith, rest, gone))

-- ---- the paths of a tag

module _ (files : Bitfiles) (nodes : List TaggedNode) (led : List Led) (are : AreAllOf files nodes led) where
  pub led_in : (path : Path) (tag : Tag) (of : Kind) → led_to files path ≡ Some (tag, of) → (k : ℕ) × (slice_get led k ≡ Some (record { path = path; tag = tag; kind = of }))
  led_in path tag of leads = at_contains led (record { path = path; tag = tag; kind = of }) (are.all.all path tag of (led_same files (root_tag, Directory) path ∙ leads))

  pub led_out : (k : ℕ) (one : Led) → slice_get led k ≡ Some one → led_to files one.path ≡ Some (one.tag, one.kind)
  led_out k one there = sym (led_same files (root_tag, Directory) one.path) ∙ are.all.each one (contains_at led k one there)

  abbrev path_at : NameIn → Option Path
  path_at at = option_map (λ (p : Path). p ++ at.name ∷ []) (way_to led at.dir)

  record IsPathAt (at : NameIn) (path : Path) : Type 0 where
    pub front : Path
    pub whole : front ++ at.name ∷ [] ≡ path
    pub leads : led_to files front ≡ Some (at.dir, Directory)

  way_leads : (dir : Tag) (path : Path) → way_to led dir ≡ Some path → led_to files path ≡ Some (dir, Directory)
  way_leads dir path is =
      let w = way_is led dir path is in
      sym (ap (led_to files) w.path_is) ∙ led_out w.k w.one w.there ∙ (λ i. Some (w.tag i, w.kind i))

  is_path_at : (at : NameIn) (path : Path) → path_at at ≡ Some path → IsPathAt at path
  is_path_at at path is = by_way (way_to led at.dir) refl is
    where
      by_way : (o : Option Path) → way_to led at.dir ≡ o → option_map (λ (p : Path). p ++ at.name ∷ []) o ≡ Some path → IsPathAt at path
      by_way None none is = none_is_some path is
      by_way (Some front) some is = record { front = front; whole = some_inj is; leads = way_leads at.dir front some }

  -- a directory to which a path leads has that path
  has_path : (at : NameIn) (front : Path) → led_to files front ≡ Some (at.dir, Directory) → path_at at ≡ Some (front ++ at.name ∷ [])
  has_path at front leads =
      let k = led_in front at.dir Directory leads in
      let w = way_there led k.0 (record { path = front; tag = at.dir; kind = Directory }) k.1 refl in
      let same : w.0 ≡ front = one_way files are.good w.0 front at.dir Directory (way_leads at.dir w.0 w.1) leads in
      ap (option_map (λ (p : Path). p ++ at.name ∷ [])) w.1 ∙ ap (λ (p : Path). Some (p ++ at.name ∷ [])) same

  -- a path leads to each directory, if none is missing
  pub reached_by : AreAllThere files → (dir : Tag) → IsDirectory files dir → IsReached files dir Directory
  reached_by all dir is = by_way (way_to led dir) refl
    where
      by_way : (o : Option Path) → way_to led dir ≡ o → IsReached files dir Directory
      by_way (Some path) some = (path, way_leads dir path some)
      by_way None none = absurd (are.good.reached all dir is (λ path leads.
          let k = led_in path dir Directory leads in
          let w = way_there led k.0 (record { path = path; tag = dir; kind = Directory }) k.1 refl in
          none_is_some w.0 (sym none ∙ w.1)))

  apart_at : (a b : NameIn) (path : Path) → path_at a ≡ Some path → path_at b ≡ Some path → a ≡ b
  apart_at a b path is is' =
      let x = is_path_at a path is in
      let y = is_path_at b path is' in
      let e : x.front ++ a.name ∷ [] ≡ y.front ++ b.name ∷ [] = x.whole ∙ sym y.whole in
      let fronts = same_fronts x.front y.front a.name b.name e in
      let names = same_names x.front y.front a.name b.name e in
      let dirs : a.dir ≡ b.dir = ap (λ (p : Tag × Kind). p.0) (some_inj (sym x.leads ∙ ap (led_to files) fronts ∙ y.leads)) in
      λ i. record { dir = dirs i; name = names i }

  module _ (below : Path) (tree : Fileset) (is : IsTreeOf files nodes below 0 tree) where
    -- each path of the tree leads to what has its number
    only_led : (path : Path) (tag : Tag) (of : Kind) → IsReached files tag of → map.get tree.paths path ≡ Some (number_of tag) → (also : Kind) × (led_to files path ≡ Some (tag, also))
    only_led path tag of reached leads =
        let o = is.only path (number_of tag) leads in
        ⊎_elim
        (λ led'.
        let same : o.0 ≡ tag = one_number files are.good path reached.0 o.0 tag o.1 of led' reached.1 (sym o.2) in
        (o.1, led' ∙ ap (λ (t : Tag). Some (t, o.1)) same))
        (λ hidden. absurd (omega (arith, hidden.3)))
        o.4

    pub directory_counts : (tag : Tag) → IsReached files tag Directory → paths_to tree (number_of tag) ≡ 1
    directory_counts tag reached = one_path_counts tree.paths reached.0 (number_of tag) (is.paths reached.0 tag Directory reached.1)
        (λ other leads. let led' = only_led other tag Directory reached leads in sym (one_way files are.good reached.0 other tag led'.0 reached.1 led'.1))

    module _ (tag : Tag) (reached : IsReached files tag File) (names : List NameIn) (are_names : AreNamesOf files tag names) where
      pub file_counts : paths_to tree (number_of tag) ≡ count_by (λ at. is_some (path_at at)) names
      file_counts = names_counted (number_of tag) path_at apart_at names tree.paths are_names.once
          (λ k at path there leads.
          let row = (are_names.each at).0 (contains_at names k at there) in
          let by = is_path_at at path leads in
          is.paths path tag row.0 (sym (ap (led_to files) by.whole) ∙ led-name files by.front at.name ∙ ap (option_and_then (λ (l : Tag × Kind). found at.name (rows_in files l.0))) by.leads ∙ row.1))
          (λ path leads.
          let led' = only_led path tag File reached leads in
          let kind : led'.0 ≡ File = one_kind files are.good path reached.0 tag led'.0 File led'.1 reached.1 in
          ⊎_elim
          (λ root. let e : Directory ≡ File = root.2 ∙ kind in absurd (cc))
          (λ by.
          let at : NameIn = record { dir = by.dir; name = by.name } in
          let k = at_contains names at ((are_names.each at).1 (led'.0, by.row)) in
          (k.0, at, k.1, has_path at by.front by.led ∙ ap Some (sym by.whole)))
          (led_by_row files are.good path tag led'.0 led'.1))

      pub few_counts : paths_to tree (number_of tag) ≤ length names
      few_counts = omega (arith, file_counts, count_by-le-length (λ at. is_some (path_at at)) names)

      pub all_counts : AreAllThere files → paths_to tree (number_of tag) ≡ length names
      all_counts all = file_counts ∙ all_counted (λ at. is_some (path_at at)) names (λ k at there.
          let row = (are_names.each at).0 (contains_at names k at there) in
          let way = reached_by all at.dir (are.good.inside at (ap is_some row.1)) in
          ap is_some (has_path at way.0 way.1))

    -- no more paths lead to a tag than may
    pub few_paths : HasFewPaths files tree
    few_paths = record { few = each }
      where
        of_directory : (tag : Tag) (count : ℕ) (file : Option Bitfile) → IsCounted files file count → 1 ≤ most_paths file
        of_directory tag count None counted = omega arith
        of_directory tag count (Some file) counted = counted.1

        of_file : (tag : Tag) (count : ℕ) (file : Option Bitfile) → ((f : Bitfile) → file ≡ Some f → f.kind ≡ File) → IsCounted files file count → count ≤ most_paths file
        of_file tag count None kind counted = counted
        of_file tag count (Some file) kind counted = (counted.3 (kind file refl)).0

        each : (tag : Tag) (of : Kind) → IsReached files tag of → paths_to tree (number_of tag) ≤ most_paths (files tag)
        each tag Directory reached =
            let counted = are.good.counted tag in
            omega (arith, directory_counts tag reached, of_directory tag (length counted.0) (files tag) counted.2)
        each tag File reached =
            let counted = are.good.counted tag in
            omega (
              arith,
              few_counts tag reached counted.0 counted.1,
              of_file tag (length counted.0) (files tag) (λ f there. led_kind files are.good reached.0 tag File f reached.1 there) counted.2,
            )

    -- as many lead to each as it has links, if no directory is missing
    pub all_paths : AreAllThere files → (one : TaggedNode) → Contains nodes one → HasItsPaths files tree one
    all_paths all one among of reached =
        let counted = are.good.counted one.tag in
        by_file (files one.tag) refl of reached counted.0 counted.1 counted.2
        (subst (IsNodeThere (files one.tag)) (are.has.once one among) (are.has.each one.tag))
      where
        by_file : (o : Option Bitfile) → files one.tag ≡ o → (of : Kind) → IsReached files one.tag of → (names : List NameIn) → AreNamesOf files one.tag names
            → IsCounted files o (length names) → IsNodeThere o (Some one) → paths_to tree (number_of one.tag) ≡ one.links
        by_file None none of reached names are_names counted is = none_is_some one (sym is)
        by_file (Some file) there Directory reached names are_names counted is =
            directory_counts one.tag reached ∙ sym (counted.2 (led_kind files are.good reached.0 one.tag Directory file reached.1 there)) ∙ sym is.links
        by_file (Some file) there File reached names are_names counted is =
            all_counts one.tag reached names are_names all ∙ (counted.3 (led_kind files are.good reached.0 one.tag File file reached.1 there)).1 all ∙ sym is.links
