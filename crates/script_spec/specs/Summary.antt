-- What a workload tells at its end: how many replies there were, and their digest.
use Rattle.std.specs.Prelude.{◌≡◌, ℕ, Bool, true, false, List, [], ◌∷◌, ◌++◌, length, take, drop, replicate, bytes_eq, codes, flat_map}
use Rattle.std.specs.List.{AllByRecursion, count_by}
use Rattle.std.specs.Fmt.{decimal}
use Rattle.hex.specs.Hex.{encode_lower}
use Rattle.sha2.specs.Sha256.{sha256}
use Rattle.tab_spec.specs.Values.{AreBytes}
use Rattle.script_spec.specs.Calls.{Call, bad_size, closing, command, opening}
use Rattle.script_spec.specs.Plays.{reply_line}

-- a reply and the label that it is told to
pub record Reply : Type 0 where
  pub label : ℕ
  pub bytes : List ℕ

-- each reply is of bytes
abbrev pub HaveBytes : List Reply → Type 0
HaveBytes replies = AllByRecursion (λ r. AreBytes r.bytes) replies

-- the lines that replies are written as
abbrev pub reply_lines : List Reply → List ℕ
reply_lines replies = flat_map (λ r. reply_line r.label r.bytes) replies

-- a whole response with the code 0, which stands behind the tag and the size
abbrev pub has_code_0 : List ℕ → Bool
has_code_0 bytes = bytes_eq (take 4 (drop 6 bytes)) (replicate 4 0)

-- the hash of all replies, one after another
abbrev pub digest_of : List Reply → List ℕ
digest_of replies = sha256 (flat_map (λ r. r.bytes) replies)

-- the line of these numbers and this digest: of lines, of replies, of replies with the code 0, and of entries
abbrev pub numbers_line : ℕ → ℕ → ℕ → ℕ → List ℕ → List ℕ
numbers_line lines replies with_code_0 entries digest =
    codes "lines " ++ decimal lines ++ codes " replies " ++ decimal replies ++ codes " ok " ++ decimal with_code_0
    ++ codes " entries " ++ decimal entries ++ codes " digest " ++ encode_lower digest ++ 10 ∷ []

-- the line of a script of so many lines whose history has so many entries
abbrev pub summary_line : ℕ → List Reply → ℕ → List ℕ
summary_line lines replies entries =
    numbers_line lines (length replies) (count_by (λ r. has_code_0 r.bytes) replies) entries (digest_of replies)

-- how many of the calls are answered by a reply
abbrev pub is_answered : Call → Bool
is_answered (opening label) = false
is_answered (command label number bytes covered) = true
is_answered (bad_size label) = true
is_answered (closing label) = false

abbrev pub replies_to : List Call → ℕ
replies_to calls = count_by is_answered calls

-- calls added the lines of as many replies to an output
pub record AreTold (calls : List Call) (old new : List ℕ) : Type 0 where
  pub replies : List Reply
  pub written : new ≡ old ++ reply_lines replies
  pub count : length replies ≡ replies_to calls
  pub have : HaveBytes replies
