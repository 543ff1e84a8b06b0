use Rattle.logged_rack.proofs.Showing.{append_shows, force_shows, read_shows, sync_shows, write_shows}
use Rattle.logged_rack.proofs.laws.side_laws.Goals as goal

pub returns-clause-append : goal.returns-clause-append
returns-clause-append c = append_shows

pub returns-clause-force : goal.returns-clause-force
returns-clause-force c = force_shows

pub returns-clause-read : goal.returns-clause-read
returns-clause-read c = read_shows

pub returns-clause-write : goal.returns-clause-write
returns-clause-write c = write_shows

pub returns-clause-sync : goal.returns-clause-sync
returns-clause-sync c = sync_shows
