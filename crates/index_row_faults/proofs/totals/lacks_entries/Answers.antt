use Rattle.std.proofs.Common.{◌≡◌, ◌+◌, ◌<◌, ◌≤◌, ℕ, List, get_or, length, refl, arith}
use Rattle.std.specs.BTreeMap.{BTreeMap}
use Rattle.std.proofs.lemmas.Option.{slice_get-get_or}
use mathlib.Core.Bool.{false≢true}
use Rattle.directory_faults.proofs.Inserted.{at_among}
use Rattle.index_row_faults.specs.Counts.{count_in}
use Rattle.index_row_faults.specs.Totals.{IsLacking}
use Rattle.index_row_faults.proofs.Items.{AreSo, so_all, so_more}
use Rattle.index_row_faults.proofs.totals.lacks_entries.Goals as goal

module _ (in_rows in_entries : BTreeMap (ℕ × ℕ) ℕ) (keys : List (ℕ × ℕ)) (number : ℕ) (d : ℕ × ℕ) (entries rows : ℕ) (within : number < length keys)
    (of_entries : entries ≡ count_in in_entries (get_or keys number d).0 (get_or keys number d).1) (of_rows : rows ≡ count_in in_rows (get_or keys number d).0 (get_or keys number d).1) where
  lacking : entries < rows → (key : ℕ × ℕ) × ((k : ℕ) × (k < length keys) × (get_or keys k key ≡ key)) × IsLacking in_rows in_entries key
  lacking less =
      let key = get_or keys number d in
      (key, at_among keys number key (slice_get-get_or keys number d within), omega (arith, less, of_entries, of_rows))

  none_more : rows ≤ entries → AreSo (λ key. ¬ IsLacking in_rows in_entries key) keys number → AreSo (λ key. ¬ IsLacking in_rows in_entries key) keys (number + 1)
  none_more most are = so_more (λ key. ¬ IsLacking in_rows in_entries key) keys number (get_or keys number d) (slice_get-get_or keys number d within) (λ less. omega (arith, less, most, of_entries, of_rows)) are

pub returns-then-count_of : goal.returns-then-count_of
returns-then-count_of c = (
  λ is. lacking c.args.in_rows.now c.args.in_entries.now c.args.keys.now c.loop-key.key-index _ c.count_of.result c.count_of-in-loop-key.result c.loop-key-test.true c.count_of.ensures c.count_of-in-loop-key.ensures c.if-count_of.true,
  λ some. refl,
)

pub loop-key-preserved : goal.loop-key-preserved
loop-key-preserved c =
    none_more c.args.in_rows.now c.args.in_entries.now c.args.keys.now c.loop-key.key-index _ c.count_of.result c.count_of-in-loop-key.result c.loop-key-test.true c.count_of.ensures c.count_of-in-loop-key.ensures c.if-count_of.false
    c.loop-key.invariant

pub returns : goal.returns
returns c = (
  λ is. absurd (false≢true is),
  λ (key, among, less). absurd (so_all (λ key. ¬ IsLacking c.args.in_rows.now c.args.in_entries.now key) c.args.keys.now c.loop-key.key-index c.loop-key-test.false c.loop-key.invariant key among less),
)
