use Rattle.std.proofs.Common.{ℕ, IfSome, refl, subst}
use Rattle.fileset_files.specs.extent_maps.Runs.{place_of}
use Rattle.fileset_files.specs.file_chains.Files.{places_of}
use Rattle.file_release.specs.Sharing.{frozen_of}
use Rattle.file_release.specs.Steps.{IsTail}
use Rattle.file_release.proofs.Planned.{tail_by}
use Rattle.file_release.proofs.releasing.tail_for.Goals as goal

pub returns-clause-tail : goal.returns-clause-tail
returns-clause-tail g c = λ own reads.
    tail_by c.args.from (frozen_of c.args.reader.now) (place_of c.in_ok-own.own) (places_of own) (place_of c.args.map.now) (place_of c.args.map.now) c.tail_of-tail.result (c.in_ok-own.ensures own reads) (λ p. refl)
    (subst (λ (n : ℕ). IsTail c.args.from n (place_of c.in_ok-own.own) (place_of c.args.map.now) c.tail_of-tail.result) c.frozen_pages-frozen.ensures c.tail_of-tail.ensures)

pub returns-clause-read : goal.returns-clause-read
returns-clause-read g c = λ own reads. c.in_ok-own.ensures own reads

pub returns-in-Some-clause-tail : goal.returns-in-Some-clause-tail
returns-in-Some-clause-tail g c = λ own reads.
    subst (λ (n : ℕ). IsTail c.args.from n (places_of own) (place_of c.args.map.now) c.in-Some.tail) c.frozen_pages-frozen.ensures
    (subst (λ o. IfSome o (IsTail c.args.from c.frozen_pages-frozen.result (places_of own) (place_of c.args.map.now))) c.in-Some.is (c.tail_alone.ensures own))

pub returns-in-Some-tail_known-clause-tail : goal.returns-in-Some-tail_known-clause-tail
returns-in-Some-tail_known-clause-tail g c = λ own reads.
    subst (λ o. IfSome o (IsTail c.args.from (frozen_of c.args.reader.now) (places_of own) (place_of c.args.map.now))) c.in-Some-tail_known.is
    (c.tail_known.ensures (g.M.MetaPages.pages c.args.pages.now) own c.requires.known reads)
