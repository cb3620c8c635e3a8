-- The grammar of the program's words: a command, and then its options in any order.
use Rattle.std.specs.Prelude.{ℕ, ⊤, IsTrue, ◌-◌, ◌≤◌, ◌^◌, ◌==◌, ◌&&◌, not, nat_le, Bool, true, false, List, [], ◌∷◌, length, drop, codes, Option, Some, None, is_some, Result, Ok, Err, if◌then◌else◌}
use Rattle.std.specs.Cmp.Lexicographic.{pointwise}
use Rattle.std.specs.List.{starts_with, list_any, list_all, before_first, after_first}
use Rattle.std.specs.Map.{lookup}
use Rattle.std.specs.Option.{option_and_then, option_map, unwrap_or}
use Rattle.hex.specs.declared.error.FromHexError.{FromHexError}
use Rattle.hex.specs.Hex.{decode_of}
use Rattle.history_spec.specs.declared.TheConstants.{JOURNAL_LEAST, JOURNAL_LIMIT, JOURNAL_MOST, SILENT_LIMIT}
use Rattle.script_spec.specs.Script.{is_digit, number_of}
use Rattle.command_line.specs.declared.words.Verb.{Verb}
use Rattle.command_line.specs.declared.path_text.TheConstants.{PATH_MOST}
use Rattle.command_line.specs.declared.words.TheConstants.{CONNECTIONS_MOST, LINES_MOST}
use Rattle.command_line.specs.declared.words.Verb.TheVariants.{Run, Serve, Workload}
use Rattle.command_line.specs.declared.words.DeviceWord.{DeviceWord}
use Rattle.command_line.specs.declared.words.DeviceWord.TheVariants.{Memory, Tpm, Unix}
use Rattle.command_line.specs.declared.words.Plan.{Plan}
use Rattle.command_line.specs.declared.words.Setting.{Setting}
use Rattle.command_line.specs.declared.words.Settings.{Settings}
use Rattle.command_line.specs.declared.words.Setting.TheVariants.{Device, Socket, Connections, JournalBytes, Audit, Start, Lines}

-- the same bytes
abbrev pub is_text : List ℕ → List ℕ → Bool
is_text a b = pointwise ◌==◌ a b

-- in `do`, `x ← found` names what was found; where nothing was, nothing comes of the block
infixl 10 ◌>>=◌
abbrev pub ◌>>=◌ : {A B : Type 0} → Option A → (A → Option B) → Option B
found >>= next = option_and_then next found

-- ---- values

abbrev pub seed_in : Result (List ℕ) FromHexError → Option (List ℕ)
seed_in (Err error) = None
seed_in (Ok bytes) = if length bytes == 32 then Some bytes else None

-- the seed of a device in memory: 64 hexadecimal digits
abbrev pub seed_of : List ℕ → Option (List ℕ)
seed_of word = seed_in (decode_of word)

-- 1 to 20 decimal digits, needless zeros among them
abbrev pub is_number : List ℕ → Bool
is_number word = nat_le 1 (length word) && nat_le (length word) 20 && list_all is_digit word

-- a number within these bounds
abbrev pub number_within : ℕ → ℕ → List ℕ → Option ℕ
number_within least most word =
    if is_number word && (nat_le least (number_of word) && nat_le (number_of word) most) then Some (number_of word) else None

-- the path of a socket: 1 to 100 bytes
abbrev pub path_of : List ℕ → Option (List ℕ)
path_of word = if nat_le 1 (length word) && nat_le (length word) PATH_MOST then Some word else None

-- a device, by its kind and what stands behind the `:`
abbrev pub device_by : List ℕ → List ℕ → Option DeviceWord
device_by kind name =
    if is_text kind (codes "memory") then option_map Memory (seed_of name)
    else if is_text kind (codes "unix") then option_map Unix (path_of name)
    else if is_text kind (codes "tpm") then option_map Tpm (path_of name)
    else None

abbrev pub is_colon : ℕ → Bool
is_colon byte = byte == 58

-- `memory:` and a seed, or `unix:` or `tpm:` and a path
abbrev pub device_of : List ℕ → Option DeviceWord
device_of word =
    if list_any is_colon word then device_by (before_first is_colon word) (after_first is_colon word) else None

-- the path of its socket, where it has one, has 1 to 100 bytes
abbrev pub HasFittingPath : DeviceWord → Type 0
HasFittingPath (Memory seed) = ⊤
HasFittingPath (Unix path) = (1 ≤ length path) × (length path ≤ PATH_MOST)
HasFittingPath (Tpm path) = (1 ≤ length path) × (length path ≤ PATH_MOST)

-- ---- options

-- the options that have a value, each by its name and what its value gives
abbrev pub valued : List (List ℕ × (List ℕ → Option Setting))
valued =
    (codes "--device", λ value. option_map Device (device_of value))
    ∷ (codes "--socket", λ value. option_map Socket (path_of value))
    ∷ (codes "--connections", λ value. option_map Connections (number_within 1 CONNECTIONS_MOST value))
    ∷ (codes "--journal-bytes", λ value. option_map JournalBytes (number_within JOURNAL_LEAST JOURNAL_MOST value))
    ∷ (codes "--start", λ value. option_map Start (number_within 0 (2 ^ 64 - 1) value))
    ∷ (codes "--lines", λ value. option_map Lines (number_within 1 LINES_MOST value))
    ∷ []

-- the options that have none, each by its name and what it gives
abbrev pub flags : List (List ℕ × Setting)
flags = (codes "--audit", Audit) ∷ (codes "--no-journal", JournalBytes SILENT_LIMIT) ∷ []

-- the option of this name with this value
abbrev pub setting_of : List ℕ → List ℕ → Option Setting
setting_of name value = do
  read ← lookup (is_text name) valued
  read value

-- the option of this name, which has no value
abbrev pub flag_of : List ℕ → Option Setting
flag_of name = lookup (is_text name) flags

abbrev pub is_equals : ℕ → Bool
is_equals byte = byte == 61

-- the option that one word gives: `NAME=VALUE`, or a name that has no value
abbrev pub setting_in : List ℕ → Option Setting
setting_in word =
    if list_any is_equals word then setting_of (before_first is_equals word) (after_first is_equals word) else flag_of word

-- whether the value of an option is the word behind its name: the name has no `=` and isn't one without a value
abbrev pub takes_value : List ℕ → Bool
takes_value word = not (list_any is_equals word) && not (is_some (flag_of word))

-- the option that a name and the next word give, which doesn't begin with `-`
abbrev pub setting_with : List ℕ → List ℕ → Option Setting
setting_with name next = if starts_with ◌==◌ next (codes "-") then None else setting_of name next

abbrev pub with_first : Option Setting → Option (List Setting) → Option (List Setting)
with_first None settings = None
with_first (Some setting) settings = option_map (λ more. setting ∷ more) settings

-- the options that words give, one after another; nothing where some of them give none
abbrev pub settings_of : List (List ℕ) → Option (List Setting)
settings_of [] = Some []
settings_of (word ∷ []) = with_first (setting_in word) (Some [])
settings_of (word ∷ next ∷ words) =
    if takes_value word then with_first (setting_with word next) (settings_of words)
    else with_first (setting_in word) (settings_of (next ∷ words))

-- the same by the first option, and how many words it takes
abbrev pub settings_by : Option (Setting × ℕ) → List (List ℕ) → Option (List Setting)
settings_by None words = None
settings_by (Some first) words = with_first (Some first.0) (settings_of (drop first.1 words))

-- no option is given
abbrev pub no_settings : Settings
no_settings = record { device = None; socket = None; connections = None; limit = None; audit = None; start = None; lines = None }

-- what comes of an option that is given for the first time; nothing where it has a value already
abbrev pub once : {A B : Type 0} → Option A → B → Option B
once None now = Some now
once (Some x) now = None

-- these options and one more; nothing where it was given already
abbrev pub joined : Settings → Setting → Option Settings
joined settings (Device device) = once settings.device (record settings { device = Some device })
joined settings (Socket path) = once settings.socket (record settings { socket = Some path })
joined settings (Connections count) = once settings.connections (record settings { connections = Some count })
joined settings (JournalBytes limit) = once settings.limit (record settings { limit = Some limit })
joined settings Audit = once settings.audit (record settings { audit = Some true })
joined settings (Start start) = once settings.start (record settings { start = Some start })
joined settings (Lines lines) = once settings.lines (record settings { lines = Some lines })

-- these options and those, one after the other; nothing where one is given twice
abbrev pub gathered : Settings → List Setting → Option Settings
gathered settings [] = Some settings
gathered settings (setting ∷ more) = do
  now ← joined settings setting
  gathered now more

-- ---- commands

abbrev pub is_serve : Verb → Bool
is_serve Run = false
is_serve Serve = true
is_serve Workload = false

-- whether connections are served
abbrev pub IsServe : Verb → Type 0
IsServe job = IsTrue (is_serve job)

abbrev pub is_workload : Verb → Bool
is_workload Run = false
is_workload Serve = false
is_workload Workload = true

-- the command that a word names
abbrev pub verb_of : List ℕ → Option Verb
verb_of word =
    if is_text word (codes "run") then Some Run
    else if is_text word (codes "serve") then Some Serve
    else if is_text word (codes "workload") then Some Workload
    else None

-- the value of an option that a command asks for, which has to be given; an option that it doesn't ask for may not be given, and has
-- this value then
abbrev pub asked : {A : Type 0} → Bool → A → Option A → Option A
asked true otherwise value = value
asked false otherwise None = Some otherwise
asked false otherwise (Some x) = None

-- the plan of a command with these options; nothing where one is missing, or there is one that it doesn't take
abbrev pub plan_by : Verb → Settings → Option Plan
plan_by job settings = do
  device ← settings.device
  socket ← asked (is_serve job) [] settings.socket
  connections ← asked (is_serve job) 0 settings.connections
  start ← asked (is_workload job) 0 settings.start
  lines ← asked (is_workload job) 0 settings.lines
  Some (record {
    job = job;
    device = device;
    socket = socket;
    connections = connections;
    limit = unwrap_or settings.limit JOURNAL_LIMIT;
    audit = unwrap_or settings.audit false;
    start = start;
    lines = lines;
  })

-- a plan, but not one that asks for the text of entries that aren't kept
abbrev pub that_keeps : Plan → Option Plan
that_keeps plan = if plan.audit && (plan.limit == SILENT_LIMIT) then None else Some plan

-- the plan that words give; nothing where they are refused
abbrev pub accepted : List (List ℕ) → Option Plan
accepted [] = None
accepted (verb ∷ words) = do
  job ← verb_of verb
  settings ← settings_of words
  all ← gathered no_settings settings
  plan ← plan_by job all
  that_keeps plan
