-- The text of commands, as histories write them.
use Rattle.std.specs.Prelude.{ℕ, Bool, if◌then◌else◌, Option, Some, None, List, [], ◌∷◌, ◌++◌, codes, decimal}
use Rattle.word_forms.specs.fileset_values.declared.command.Actor.{Actor}
use Rattle.word_forms.specs.fileset_values.declared.command.Actor.TheVariants.{Client, Mover}
use Rattle.word_forms.specs.fileset_values.declared.command.Command.{Command}
use Rattle.word_forms.specs.fileset_values.declared.command.Command.TheVariants as command
use Rattle.word_forms.specs.fileset_values.declared.command.Owner.{Owner}
use Rattle.word_forms.specs.fileset_values.declared.command.Owner.TheVariants as owner
use Rattle.word_forms.specs.Runs.{bytes_text}
use Rattle.word_forms.specs.Texts.{path_text, place_text, spaced}

-- `c` and the client's number, or `m` for the mover
abbrev pub actor_text : Actor → List ℕ
actor_text (Client n) = codes "c" ++ decimal n
actor_text Mover = codes "m"

-- whose a quota is, in two words
abbrev pub owner_kind : Owner → List ℕ
owner_kind (owner.User id) = codes "user"
owner_kind (owner.Group id) = codes "group"
owner_kind owner.Fileset = codes "fileset"

abbrev pub owner_id : Owner → ℕ
owner_id (owner.User id) = id
owner_id (owner.Group id) = id
owner_id owner.Fileset = 0

abbrev pub switch_text : Bool → List ℕ
switch_text on = if on then codes "on" else codes "off"

-- an option with its number, if it is given
abbrev pub option_words : List ℕ → Option ℕ → List (List ℕ)
option_words name None = []
option_words name (Some n) = name ∷ decimal n ∷ []

-- the words of a command; its numbers have no leading zeros
abbrev pub command_words : Command → List (List ℕ)
command_words (command.Mkfset fileset) = codes "mkfset" ∷ fileset ∷ []
command_words (command.Rmfset fileset) = codes "rmfset" ∷ fileset ∷ []
command_words (command.Clonefset fileset new_name) = codes "clonefset" ∷ fileset ∷ new_name ∷ []
command_words command.Showfsets = codes "showfsets" ∷ []
command_words (command.Setquota fileset who files blocks) =
    codes "setquota" ∷ fileset ∷ owner_kind who ∷ decimal (owner_id who)
    ∷ decimal files ∷ decimal blocks ∷ []
command_words (command.Showquota fileset who) =
    codes "showquota" ∷ fileset ∷ owner_kind who ∷ decimal (owner_id who) ∷ []
command_words (command.Create place uid gid) =
    codes "create" ∷ place_text place ∷ decimal uid ∷ decimal gid ∷ []
command_words (command.Mkdir place uid gid) =
    codes "mkdir" ∷ place_text place ∷ decimal uid ∷ decimal gid ∷ []
command_words (command.Write place offset bytes) =
    codes "write" ∷ place_text place ∷ decimal offset ∷ bytes_text bytes ∷ []
command_words (command.Read place offset count) =
    codes "read" ∷ place_text place ∷ decimal offset ∷ decimal count ∷ []
command_words (command.Truncate place size) =
    codes "truncate" ∷ place_text place ∷ decimal size ∷ []
command_words (command.Rename place to) = codes "rename" ∷ place_text place ∷ path_text to ∷ []
command_words (command.Link place to) = codes "link" ∷ place_text place ∷ path_text to ∷ []
command_words (command.Links place) = codes "links" ∷ place_text place ∷ []
command_words (command.Unlink place) = codes "unlink" ∷ place_text place ∷ []
command_words (command.Rmdir place) = codes "rmdir" ∷ place_text place ∷ []
command_words (command.List place) = codes "list" ∷ place_text place ∷ []
command_words (command.Stat place) = codes "stat" ∷ place_text place ∷ []
command_words (command.Fsync place) = codes "fsync" ∷ place_text place ∷ []
command_words (command.Chfile place logged) =
    codes "chfile" ∷ codes "-L" ∷ switch_text logged ∷ place_text place ∷ []
command_words (command.Stripe width place) =
    codes "stripe" ∷ codes "-n" ∷ decimal width ∷ place_text place ∷ []
command_words command.Sync = codes "sync" ∷ []
command_words command.Cancel = codes "cancel" ∷ []
command_words command.Showfdmn = codes "showfdmn" ∷ []
command_words (command.Showfile place) = codes "showfile" ∷ place_text place ∷ []
command_words (command.Migrate place first count from to) =
    codes "migrate" ∷ option_words (codes "-p") first ++ option_words (codes "-n") count
    ++ option_words (codes "-s") from ++ codes "-d" ∷ decimal to ∷ place_text place ∷ []
command_words command.Balance = codes "balance" ∷ []
command_words (command.Addvol vol) = codes "addvol" ∷ decimal vol ∷ []
command_words (command.Rmvol vol) = codes "rmvol" ∷ decimal vol ∷ []
command_words (command.ChvolA vol) = codes "chvol" ∷ codes "-A" ∷ decimal vol ∷ []
command_words (command.Switchlog vol) = codes "switchlog" ∷ decimal vol ∷ []
command_words command.Upgrade = codes "upgrade" ∷ []
command_words (command.Defragment place) = codes "defragment" ∷ place_text place ∷ []

-- the words with one space between two of them
unfoldable pub command_text : Command → List ℕ
command_text c = spaced (command_words c)
