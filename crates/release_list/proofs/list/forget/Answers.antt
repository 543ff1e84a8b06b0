use Rattle.std.proofs.Common.{◌≡◌, ◌∙◌, ◌<◌, ◌++◌, ℕ, zero, suc, [], ◌∷◌, refl, Option, List, length, map, take, drop, slice_set, sym, ap, arith}
use Rattle.std.proofs.lemmas.List.Edits.{map_over_more}
use Rattle.file_release.specs.domain_base.declared.place.CellAt.{CellAt}
use Rattle.file_release.proofs.OfFileChains.Allocated.{there_is}
use Rattle.release_list.specs.declared.list.Entry.{Entry}
use Rattle.release_list.specs.Listing.{clone_but, without}
use Rattle.release_list.proofs.list.forget.Goals as goal

-- the number of elements stays if those before a place are mapped
as_long : (f : Entry → Entry) (xs : List Entry) (i : ℕ) → i < length xs → length (map f (take i xs) ++ drop i xs) ≡ length xs
as_long f (x ∷ xs) zero less = refl
as_long f (x ∷ xs) (suc i) less = ap suc (as_long f xs i (omega (arith, less)))
as_long f [] i less = absurd (omega (arith, less))

pub loop-i-preserved : goal.loop-i-preserved
loop-i-preserved c =
    let at = c.args.at.now in
    let all = c.args.entries.now.items in
    let items = c.loop-i.entries.items in
    let i = c.loop-i.i in
    let within : i < length all = omega (arith, c.loop-i-test.true, c.len-i-end.ensures, c.args.entries.now.ok.0) in
    let inside : i < length items = omega (arith, within, ap length c.loop-i.invariant.items, as_long (without at) all i within) in
    let item = c.index_mut.result.now in
    let seen = c.index.result.now in
    let same : seen ≡ item = c.index.ensures ∙ there_is items i seen item inside ∙ sym c.index_mut.ensures.value in
    record {
      items = ap (λ (o : Option CellAt). slice_set items i (record item { clone = o })) (c.clone_but.ensures ∙ ap (λ (e : Entry). clone_but at e.clone) same)
          ∙ map_over_more (without at) all items i item within c.loop-i.invariant.items c.index_mut.ensures.value;
      len = c.loop-i.invariant.len;
      capacity = c.loop-i.invariant.capacity;
    }
