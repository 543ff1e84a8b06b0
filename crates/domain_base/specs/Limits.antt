-- The limits of a domain and of the language, each number once. The constants of `limits` are these numbers.
use Rattle.std.specs.Prelude.{◌≡◌, ℕ}
use Rattle.domain_base.specs.declared.limits.TheConstants.{PAGE_BYTES, BLOCK_BYTES, BLOCKS_PER_PAGE, MAX_VOLUMES, MIN_VOLUME_PAGES, MIN_FIRST_VOLUME_PAGES, MAX_VOLUME_PAGES, MAX_VOLUME_PAGES_4, MAX_FILESETS, MAX_FILESET_NAME, FILESET_SLOTS, FILE_PAGES, FILE_BYTES, MAX_NAME, MAX_PATH_NAMES, MAX_TRANSFER, MAX_CLIENTS, MAX_COMMANDS, MAX_SCRIPT_BYTES, MAX_LINKS, TRANSACTION_PAGES, GROUP_IMAGES, LOG_PAGES, PAGE_CELLS, OPEN_GATE}

abbrev pub page_bytes : ℕ
page_bytes = 8192

abbrev pub block_bytes : ℕ
block_bytes = 512

abbrev pub blocks_per_page : ℕ
blocks_per_page = 16

abbrev pub max_volumes : ℕ
max_volumes = 8

abbrev pub min_volume_pages : ℕ
min_volume_pages = 64

abbrev pub min_first_volume_pages : ℕ
min_first_volume_pages = 160

-- in version 3
abbrev pub max_volume_pages : ℕ
max_volume_pages = 65536

-- in version 4
abbrev pub max_volume_pages_4 : ℕ
max_volume_pages_4 = 1048576

abbrev pub max_filesets : ℕ
max_filesets = 16

abbrev pub max_fileset_name : ℕ
max_fileset_name = 31

abbrev pub fileset_slots : ℕ
fileset_slots = 32

abbrev pub file_pages : ℕ
file_pages = 65536

abbrev pub file_bytes : ℕ
file_bytes = 536870912

abbrev pub max_name : ℕ
max_name = 255

abbrev pub max_path_names : ℕ
max_path_names = 32

abbrev pub max_transfer : ℕ
max_transfer = 8192

abbrev pub max_clients : ℕ
max_clients = 8

abbrev pub max_commands : ℕ
max_commands = 2000

abbrev pub max_script_bytes : ℕ
max_script_bytes = 33554432

abbrev pub max_links : ℕ
max_links = 1000

abbrev pub transaction_pages : ℕ
transaction_pages = 32

abbrev pub group_images : ℕ
group_images = 60

abbrev pub log_pages : ℕ
log_pages = 128

abbrev pub page_cells : ℕ
page_cells = 28

-- the first byte of an open gate
abbrev pub open_gate : ℕ
open_gate = 165

-- each constant is its number
pub record LimitsStand : Type 0 where
  pub bytes_of_a_page : PAGE_BYTES ≡ page_bytes
  pub bytes_of_a_block : BLOCK_BYTES ≡ block_bytes
  pub blocks_of_a_page : BLOCKS_PER_PAGE ≡ blocks_per_page
  pub volumes : MAX_VOLUMES ≡ max_volumes
  pub pages_at_least : MIN_VOLUME_PAGES ≡ min_volume_pages
  pub first_pages_at_least : MIN_FIRST_VOLUME_PAGES ≡ min_first_volume_pages
  pub pages_at_most : MAX_VOLUME_PAGES ≡ max_volume_pages
  pub pages_at_most_4 : MAX_VOLUME_PAGES_4 ≡ max_volume_pages_4
  pub filesets : MAX_FILESETS ≡ max_filesets
  pub fileset_name : MAX_FILESET_NAME ≡ max_fileset_name
  pub slots : FILESET_SLOTS ≡ fileset_slots
  pub pages_of_a_file : FILE_PAGES ≡ file_pages
  pub bytes_of_a_file : FILE_BYTES ≡ file_bytes
  pub name : MAX_NAME ≡ max_name
  pub path_names : MAX_PATH_NAMES ≡ max_path_names
  pub transfer : MAX_TRANSFER ≡ max_transfer
  pub clients : MAX_CLIENTS ≡ max_clients
  pub commands : MAX_COMMANDS ≡ max_commands
  pub script_bytes : MAX_SCRIPT_BYTES ≡ max_script_bytes
  pub links : MAX_LINKS ≡ max_links
  pub pages_of_a_transaction : TRANSACTION_PAGES ≡ transaction_pages
  pub images_of_a_group : GROUP_IMAGES ≡ group_images
  pub pages_of_the_log : LOG_PAGES ≡ log_pages
  pub cells_of_a_page : PAGE_CELLS ≡ page_cells
  pub gate : OPEN_GATE ≡ open_gate
