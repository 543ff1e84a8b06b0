use Rattle.std.proofs.Common.{◌≡◌, ℕ, ◌+◌, length, Option, Some, None, slice_get, refl, sym, subst, arith, rules, Vec, Global, vec_len}
use Rattle.std.proofs.lemmas.Option.{slice_get_read}
use Rattle.filesets_reading.proofs.OfDirectoryRows.AllLed.{contains_at}
use Rattle.fileset_shapes.specs.Sources.{HasTag, ReadsAt}
use Rattle.fileset_shapes.specs.declared.found.TaggedFile.{TaggedFile}
use Rattle.fileset_shapes.proofs.ReadSources.{decided, tag_read}
use Rattle.fileset_shapes.proofs.TaggedFiles.{AreRead, read_end, read_none, read_one}
use Rattle.fileset_shapes.proofs.fileset_sources.read_files.Goals as goal
use Rattle.fileset_shapes.proofs.fileset_sources.read_files.Goals.{in-Some+in_ok-push, in_default}

none_by : (o : Option TaggedFile) → ((file : TaggedFile) → o ≡ Some file → ⊥) → o ≡ None
none_by None never = refl
none_by (Some file) never = absurd (never file refl)

pub loop-i-preserved : goal.loop-i-preserved
loop-i-preserved g c =
    let pages = g.M.MetaPages.pages c.args.pages.now in
    let tags = c.in_ok-tags.tags in
    let tag = c.index.result.now in
    let size : vec_len tags ≡ length tags.items = search rules in
    let there : slice_get tags.items c.loop-i.i ≡ Some tag =
    slice_get_read tags.items (vec_len tags) c.loop-i.i tag size (omega (arith, c.loop-i-test.true, c.len-i-end.ensures)) c.index.ensures in
    elim c.match-branch-3.branch [
      | in-Some+in_ok-push w ↦
          let reads : ReadsAt pages c.args.source.now tag (Some w.in-Some.file) = subst (ReadsAt pages c.args.source.now tag) w.in-Some.is c.in_ok-file.ensures in
          subst (λ (v : Vec TaggedFile Global). AreRead (ReadsAt pages c.args.source.now) tags.items (c.loop-i.i + 1) v.items) (sym w.files-is)
          (subst (AreRead (ReadsAt pages c.args.source.now) tags.items (c.loop-i.i + 1)) (sym w.in_ok-push.ensures.items)
          (read_one (ReadsAt pages c.args.source.now) (HasTag pages c.args.source.now) tags.items c.in_ok-tags.ensures c.loop-i.i tag there c.loop-i.files.items c.loop-i.invariant w.in-Some.file
          (tag_read pages c.args.source.now tag w.in-Some.file reads) reads))
      | in_default w ↦
          let reads : ReadsAt pages c.args.source.now tag None = subst (ReadsAt pages c.args.source.now tag) (none_by c.in_ok-file.field-0 w.in_default.not-Some) c.in_ok-file.ensures in
          subst (λ (v : Vec TaggedFile Global). AreRead (ReadsAt pages c.args.source.now) tags.items (c.loop-i.i + 1) v.items) (sym w.files-is)
          (read_none (ReadsAt pages c.args.source.now) (HasTag pages c.args.source.now) tags.items c.in_ok-tags.ensures c.loop-i.i tag there c.loop-i.files.items c.loop-i.invariant reads)
    ]

pub returns : goal.returns
returns g c =
    let pages = g.M.MetaPages.pages c.args.pages.now in
    let tags = c.in_ok-tags.tags in
    let size : vec_len tags ≡ length tags.items = search rules in
    let all : c.loop-i.i ≡ length tags.items = omega (arith, c.loop-i-test.false, c.loop-i.auto.i-end, c.len-i-end.ensures, size) in
    let are : AreRead (ReadsAt pages c.args.source.now) tags.items (length tags.items) c.loop-i.files.items =
    subst (λ (n : ℕ). AreRead (ReadsAt pages c.args.source.now) tags.items n c.loop-i.files.items) all c.loop-i.invariant in
    record {
      once = are.once;
      each = read_end (ReadsAt pages c.args.source.now) (HasTag pages c.args.source.now) tags.items c.in_ok-tags.ensures c.loop-i.files.items are (decided pages c.args.source.now c.requires);
      small = λ place file at. let from = are.only place file at in c.in_ok-tags.ensures.small file.tag (contains_at tags.items from.0 file.tag from.2);
    }
