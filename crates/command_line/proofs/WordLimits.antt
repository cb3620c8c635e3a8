-- What an accepted plan keeps within its limits: the journal, the lines of a workload, the connections, the socket's path, and the device's.
use Rattle.std.proofs.Common.{◌≡◌, ◌≤◌, ◌<◌, ◌^◌, ◌-◌, ◌↔◌, ℕ, Bool, true, false, List, [], ◌∷◌, length, Option, Some, None, inl, inr, refl, sym, subst, arith}
use Rattle.std.specs.Prelude.{⊤, ◌==◌, ◌&&◌, nat_le, if◌then◌else◌, IsTrue, IfSome, codes}
use Rattle.std.specs.List.{AllByRecursion, after_first, before_first, list_any, starts_with}
use Rattle.std.specs.Map.{lookup}
use Rattle.std.specs.Option.{option_and_then, option_map, unwrap_or}
use Rattle.std.proofs.lemmas.Bool.{and_parts, eqb-false, leb-true}
use Rattle.history_spec.specs.Entry.{IsLimit}
use Rattle.history_spec.specs.declared.TheConstants.{JOURNAL_LEAST, JOURNAL_LIMIT, JOURNAL_MOST, SILENT_LIMIT}
use Rattle.script_spec.specs.Script.{number_of}
use Rattle.command_line.specs.declared.path_text.TheConstants.{PATH_MOST}
use Rattle.command_line.specs.declared.words.TheConstants.{CONNECTIONS_MOST, LINES_MOST}
use Rattle.command_line.specs.declared.words.Verb.{Verb}
use Rattle.command_line.specs.declared.words.DeviceWord.{DeviceWord}
use Rattle.command_line.specs.declared.words.DeviceWord.TheVariants.{Memory, Tpm, Unix}
use Rattle.command_line.specs.declared.words.Plan.{Plan}
use Rattle.command_line.specs.declared.words.Setting.{Setting}
use Rattle.command_line.specs.declared.words.Setting.TheVariants.{Device, Socket, Connections, JournalBytes, Audit, Start, Lines}
use Rattle.command_line.specs.declared.words.Settings.{Settings}
use Rattle.command_line.specs.Words.{HasFittingPath, accepted, asked, device_of, flag_of, flags, gathered, is_colon, is_equals, is_number, is_serve, is_text}
use Rattle.command_line.specs.Words.{is_workload, joined, no_settings, number_within, path_of, plan_by, seed_of, setting_in, setting_of, setting_with, settings_of}
use Rattle.command_line.specs.Words.{once, takes_value, valued, verb_of, with_first}

-- ---- what holds of a value, where there is one

-- either branch
either : {A : Type 0} (P : A → Type 0) (b : Bool) (x y : A) → P x → P y → P (if b then x else y)
either P true x y first second = first
either P false x y first second = second

tested : {A : Type 0} (P : A → Type 0) (b : Bool) (x : A) → (b ≡ true → P x) → IfSome (if b then Some x else None) P
tested P true x holds = holds refl
tested P false x holds = tt

mapped : {A B : Type 0} {P : A → Type 0} (Q : B → Type 0) (f : A → B) (o : Option A) → IfSome o P → ((x : A) → P x → Q (f x)) → IfSome (option_map f o) Q
mapped Q f None holds step = tt
mapped Q f (Some x) holds step = step x holds

passed : {A B : Type 0} {P : A → Type 0} (Q : B → Type 0) (f : A → Option B) (o : Option A) → IfSome o P → ((x : A) → P x → IfSome (f x) Q) → IfSome (option_and_then f o) Q
passed Q f None holds step = tt
passed Q f (Some x) holds step = step x holds

any : {A : Type 0} (o : Option A) → IfSome o (λ x. ⊤)
any None = tt
any (Some x) = tt

-- of each row, and so of one with this name
found : {A : Type 0} (P : A → Type 0) (test : List ℕ → Bool) (rows : List (List ℕ × A)) → AllByRecursion (λ row. P row.1) rows → IfSome (lookup test rows) P
found P test [] all = tt
found P test (row ∷ rows) all = either (λ o. IfSome o P) (test row.0) (Some row.1) (lookup test rows) all.0 (found P test rows all.1)

-- of an option that is asked for, or has this value
asked_has : {A : Type 0} (P : A → Type 0) (is_asked : Bool) (otherwise : A) (o : Option A) → P otherwise → IfSome o P → IfSome (asked is_asked otherwise o) P
asked_has P true otherwise o other holds = holds
asked_has P false otherwise None other holds = other
asked_has P false otherwise (Some x) other holds = tt

or_else : {A : Type 0} (P : A → Type 0) (otherwise : A) (o : Option A) → P otherwise → IfSome o P → P (unwrap_or o otherwise)
or_else P otherwise None other holds = other
or_else P otherwise (Some x) other holds = holds

-- ---- an option

abbrev IsPath : List ℕ → Type 0
IsPath path = 0 < length path

-- how many lines a plan may have, 0 among them
abbrev IsLines : ℕ → Type 0
IsLines lines = lines ≤ LINES_MOST

-- how many connections, 0 among them
abbrev IsCount : ℕ → Type 0
IsCount connections = connections ≤ CONNECTIONS_MOST

abbrev HasLimit : Setting → Type 0
HasLimit (Device device) = HasFittingPath device
HasLimit (Socket path) = IsPath path
HasLimit (Connections count) = IsCount count
HasLimit (JournalBytes limit) = IsLimit limit
HasLimit Audit = ⊤
HasLimit (Start start) = ⊤
HasLimit (Lines lines) = IsLines lines

number_in : (least most : ℕ) (word : List ℕ) → IfSome (number_within least most word) (λ n. (least ≤ n) × (n ≤ most))
number_in least most word =
    let n = number_of word in
    tested (λ m. (least ≤ m) × (m ≤ most)) (is_number word && (nat_le least n && nat_le n most)) n (λ is.
    let both = and_parts (nat_le least n) (nat_le n most) (and_parts (is_number word) (nat_le least n && nat_le n most) is).1 in
    (leb-true least n both.0, leb-true n most both.1))

path_fits : (word : List ℕ) → IfSome (path_of word) (λ path. HasFittingPath (Unix path))
path_fits word =
    tested (λ path. HasFittingPath (Unix path)) (nat_le 1 (length word) && nat_le (length word) PATH_MOST) word (λ is.
    let both = and_parts (nat_le 1 (length word)) (nat_le (length word) PATH_MOST) is in
    (leb-true 1 (length word) both.0, leb-true (length word) PATH_MOST both.1))

device_fits : (word : List ℕ) → IfSome (device_of word) HasFittingPath
device_fits word =
    let kind = before_first is_colon word in
    let name = after_first is_colon word in
    let fits = λ (device : Option DeviceWord). IfSome device HasFittingPath in
    either fits (list_any is_colon word) _ None
    (either fits (is_text kind (codes "memory")) _ _ (mapped {P = λ _. ⊤} HasFittingPath Memory (seed_of name) (any (seed_of name)) (λ seed is. tt))
    (either fits (is_text kind (codes "unix")) _ _ (mapped HasFittingPath Unix (path_of name) (path_fits name) (λ path is. is))
    (either fits (is_text kind (codes "tpm")) _ None (mapped HasFittingPath Tpm (path_of name) (path_fits name) (λ path is. is)) tt)))
    tt

valued_have : AllByRecursion (λ row. (value : List ℕ) → IfSome (row.1 value) HasLimit) valued
valued_have = (
  λ value. mapped HasLimit Device (device_of value) (device_fits value) (λ device is. is),
  (
    λ value. mapped HasLimit Socket (path_of value) (path_fits value) (λ path is. is.0),
    (
      λ value. mapped HasLimit Connections (number_within 1 CONNECTIONS_MOST value) (number_in 1 CONNECTIONS_MOST value) (λ count is. is.1),
      (
        λ value. mapped HasLimit JournalBytes (number_within JOURNAL_LEAST JOURNAL_MOST value) (number_in JOURNAL_LEAST JOURNAL_MOST value) (λ limit is. inl is),
        (
          λ value. mapped HasLimit Start (number_within 0 (2 ^ 64 - 1) value) (number_in 0 (2 ^ 64 - 1) value) (λ start is. tt),
          (
            λ value. mapped HasLimit Lines (number_within 1 LINES_MOST value) (number_in 1 LINES_MOST value) (λ lines is. is.1),
            tt,
          ),
        ),
      ),
    ),
  ),
)

setting_of_has : (name value : List ℕ) → IfSome (setting_of name value) HasLimit
setting_of_has name value =
    let Reads = λ (read : List ℕ → Option Setting). (v : List ℕ) → IfSome (read v) HasLimit in
    passed HasLimit (λ read. read value) (lookup (is_text name) valued) (found Reads (is_text name) valued valued_have) (λ read has. has value)

flag_of_has : (name : List ℕ) → IfSome (flag_of name) HasLimit
flag_of_has name = found HasLimit (is_text name) flags (tt, (inr refl, tt))

abbrev OptionHasLimit : Option Setting → Type 0
OptionHasLimit setting = IfSome setting HasLimit

setting_in_has : (word : List ℕ) → IfSome (setting_in word) HasLimit
setting_in_has word = either OptionHasLimit (list_any is_equals word) _ _ (setting_of_has (before_first is_equals word) (after_first is_equals word)) (flag_of_has word)

setting_with_has : (name next : List ℕ) → IfSome (setting_with name next) HasLimit
setting_with_has name next = either OptionHasLimit (starts_with ◌==◌ next (codes "-")) None _ tt (setting_of_has name next)

-- ---- all options

abbrev HaveLimits : Option (List Setting) → Type 0
HaveLimits settings = IfSome settings (AllByRecursion HasLimit)

first_have : (first : Option Setting) (settings : Option (List Setting)) → IfSome first HasLimit → HaveLimits settings → HaveLimits (with_first first settings)
first_have None settings one all = tt
first_have (Some s) None one all = tt
first_have (Some s) (Some more) one all = (one, all)

settings_have : (words : List (List ℕ)) → HaveLimits (settings_of words)
settings_have [] = tt
settings_have (word ∷ []) = first_have (setting_in word) (Some []) (setting_in_has word) tt
settings_have (word ∷ next ∷ words) =
    either HaveLimits (takes_value word) _ _ (first_have (setting_with word next) (settings_of words) (setting_with_has word next) (settings_have words))
    (first_have (setting_in word) (settings_of (next ∷ words)) (setting_in_has word) (settings_have (next ∷ words)))

-- what the options that were given have
abbrev AreWithin : Settings → Type 0
AreWithin settings =
    IfSome settings.device HasFittingPath × IfSome settings.socket IsPath × IfSome settings.connections IsCount × IfSome settings.limit IsLimit
    × IfSome settings.lines IsLines

added : {A : Type 0} (o : Option A) (now : Settings) → AreWithin now → IfSome (once o now) AreWithin
added None now is = is
added (Some x) now is = tt

joined_are : (settings : Settings) (setting : Setting) → AreWithin settings → HasLimit setting → IfSome (joined settings setting) AreWithin
joined_are settings (Device d) all one = added settings.device (record settings { device = Some d }) (one, all.1, all.2, all.3, all.4)
joined_are settings (Socket p) all one = added settings.socket (record settings { socket = Some p }) (all.0, one, all.2, all.3, all.4)
joined_are settings (Connections n) all one = added settings.connections (record settings { connections = Some n }) (all.0, all.1, one, all.3, all.4)
joined_are settings (JournalBytes n) all one = added settings.limit (record settings { limit = Some n }) (all.0, all.1, all.2, one, all.4)
joined_are settings Audit all one = added settings.audit (record settings { audit = Some true }) all
joined_are settings (Start n) all one = added settings.start (record settings { start = Some n }) all
joined_are settings (Lines n) all one = added settings.lines (record settings { lines = Some n }) (all.0, all.1, all.2, all.3, one)

gathered_are : (settings : Settings) (more : List Setting) → AreWithin settings → AllByRecursion HasLimit more → IfSome (gathered settings more) AreWithin
gathered_are settings [] all have = all
gathered_are settings (setting ∷ more) all have =
    passed AreWithin (λ now. gathered now more) (joined settings setting) (joined_are settings setting all have.0) (λ now are. gathered_are now more are have.1)

-- ---- the plan

pub record PlanIsWithin (plan : Plan) : Type 0 where
  pub limit : IsLimit plan.limit
  pub lines : IsLines plan.lines
  pub connections : IsCount plan.connections
  pub socket : IsTrue (is_serve plan.job) ↔ IsPath plan.socket
  pub device : HasFittingPath plan.device

-- where its text is asked for, the journal keeps its entries
pub record PlanKeeps (plan : Plan) : Type 0 where
  pub within : PlanIsWithin plan
  pub keeps : IsTrue plan.audit → plan.limit ≤ JOURNAL_MOST

limit_kept : (audit : Bool) (limit : ℕ) → IsLimit limit → (audit && (limit == SILENT_LIMIT)) ≡ false → IsTrue audit → limit ≤ JOURNAL_MOST
limit_kept true limit (inl is) test asked = is.1
limit_kept true limit (inr is) test asked = absurd (eqb-false limit SILENT_LIMIT test is)
limit_kept false limit is test asked = absurd cc

plan_kept_by : (plan : Plan) (test : Bool) → PlanIsWithin plan → (plan.audit && (plan.limit == SILENT_LIMIT)) ≡ test → IfSome (if test then None else Some plan) PlanKeeps
plan_kept_by plan true within is = tt
plan_kept_by plan false within is = record { within = within; keeps = limit_kept plan.audit plan.limit within.limit is }

-- a path that is asked for has a byte, and one that isn't is empty
asked_path : (is_asked : Bool) (path : Option (List ℕ)) → IfSome path IsPath → IfSome (asked is_asked [] path) (λ path. IsTrue is_asked ↔ IsPath path)
asked_path true None is = tt
asked_path true (Some path) is = (λ _. is, λ _. refl)
asked_path false None is = (λ is. absurd cc, λ some. absurd (omega (arith, some)))
asked_path false (Some path) is = tt

plan_by_is : (job : Verb) (settings : Settings) → AreWithin settings → IfSome (plan_by job settings) PlanIsWithin
plan_by_is job settings all =
    passed PlanIsWithin _ settings.device all.0 (λ device fits.
    passed PlanIsWithin _ (asked (is_serve job) [] settings.socket) (asked_path (is_serve job) settings.socket all.1) (λ socket path.
    passed PlanIsWithin _ (asked (is_serve job) 0 settings.connections) (asked_has IsCount (is_serve job) 0 settings.connections (omega arith) all.2) (λ connections few.
    passed PlanIsWithin _ (asked (is_workload job) 0 settings.start) (any (asked (is_workload job) 0 settings.start)) (λ start _.
    passed PlanIsWithin _ (asked (is_workload job) 0 settings.lines) (asked_has IsLines (is_workload job) 0 settings.lines (omega arith) all.4) (λ lines short. record {
      limit = or_else IsLimit JOURNAL_LIMIT settings.limit (inl (omega arith, omega arith)) all.3;
      lines = short;
      connections = few;
      socket = path;
      device = fits;
    })))))

accepted_keeps : (words : List (List ℕ)) → IfSome (accepted words) PlanKeeps
accepted_keeps [] = tt
accepted_keeps (verb ∷ words) =
    passed PlanKeeps _ (verb_of verb) (any (verb_of verb)) (λ job _.
    passed PlanKeeps _ (settings_of words) (settings_have words) (λ settings have.
    passed PlanKeeps _ (gathered no_settings settings) (gathered_are no_settings settings (tt, tt, tt, tt, tt) have) (λ all are.
    passed PlanKeeps _ (plan_by job all) (plan_by_is job all are) (λ plan within. plan_kept_by plan (plan.audit && (plan.limit == SILENT_LIMIT)) within refl))))

pub plan_keeps : (words : List (List ℕ)) (plan : Plan) → Some plan ≡ accepted words → PlanKeeps plan
plan_keeps words plan is = subst (λ (o : Option Plan). IfSome o PlanKeeps) (sym is) (accepted_keeps words)
