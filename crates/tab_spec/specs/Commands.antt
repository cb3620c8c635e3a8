-- What is fixed for each command code (Part 3, the table of each command).
use Rattle.std.specs.Prelude.{ℕ, ◌==◌, Bool, true, false, List, [], ◌∷◌, Option}
use Rattle.std.specs.List.{find}
use Rattle.tab_spec.specs.declared.TheConstants.{CC_NV_UNDEFINE_SPACE, CC_NV_DEFINE_SPACE, CC_CREATE_PRIMARY, CC_NV_INCREMENT, CC_NV_WRITE, CC_SELF_TEST, CC_STARTUP, CC_NV_READ, CC_POLICY_SECRET, CC_CREATE, CC_HMAC, CC_LOAD, CC_UNSEAL, CC_CONTEXT_LOAD, CC_CONTEXT_SAVE, CC_FLUSH_CONTEXT, CC_NV_READ_PUBLIC, CC_POLICY_AUTH_VALUE, CC_POLICY_COMMAND_CODE, CC_POLICY_OR, CC_READ_PUBLIC, CC_START_AUTH_SESSION, CC_GET_CAPABILITY, CC_GET_RANDOM, CC_PCR_READ, CC_POLICY_PCR, CC_POLICY_RESTART, CC_PCR_EXTEND, CC_POLICY_GET_DIGEST, CC_POLICY_PASSWORD}
use Rattle.tab_spec.specs.declared.CommandRow.{CommandRow}
use Rattle.tab_spec.specs.declared.Kind.{Kind}
use Rattle.tab_spec.specs.declared.Kind.TheVariants.{Absent, Owner, Pcr, Nv, NvAuth, Object, Policy, Entity, Saved, Null}

-- a command's code, the kinds of its handles, how many of them have an authorization, and whether its response has a handle
abbrev pub command_row : ℕ → Kind → Kind → ℕ → Bool → CommandRow
command_row code first second authorized response_handle =
    record { code = code; handles = first ∷ second ∷ []; authorized = authorized; response_handle = response_handle }

-- the commands of the profile, by their codes
abbrev pub all_commands : List CommandRow
all_commands =
    command_row CC_NV_UNDEFINE_SPACE Owner Nv 1 false
    ∷ command_row CC_NV_DEFINE_SPACE Owner Absent 1 false
    ∷ command_row CC_CREATE_PRIMARY Owner Absent 1 true
    ∷ command_row CC_NV_INCREMENT NvAuth Nv 1 false
    ∷ command_row CC_NV_WRITE NvAuth Nv 1 false
    ∷ command_row CC_SELF_TEST Absent Absent 0 false
    ∷ command_row CC_STARTUP Absent Absent 0 false
    ∷ command_row CC_NV_READ NvAuth Nv 1 false
    ∷ command_row CC_POLICY_SECRET Entity Policy 1 false
    ∷ command_row CC_CREATE Object Absent 1 false
    ∷ command_row CC_HMAC Object Absent 1 false
    ∷ command_row CC_LOAD Object Absent 1 true
    ∷ command_row CC_UNSEAL Object Absent 1 false
    ∷ command_row CC_CONTEXT_LOAD Absent Absent 0 true
    ∷ command_row CC_CONTEXT_SAVE Saved Absent 0 false
    ∷ command_row CC_FLUSH_CONTEXT Absent Absent 0 false
    ∷ command_row CC_NV_READ_PUBLIC Nv Absent 0 false
    ∷ command_row CC_POLICY_AUTH_VALUE Policy Absent 0 false
    ∷ command_row CC_POLICY_COMMAND_CODE Policy Absent 0 false
    ∷ command_row CC_POLICY_OR Policy Absent 0 false
    ∷ command_row CC_READ_PUBLIC Object Absent 0 false
    ∷ command_row CC_START_AUTH_SESSION Null Null 0 true
    ∷ command_row CC_GET_CAPABILITY Absent Absent 0 false
    ∷ command_row CC_GET_RANDOM Absent Absent 0 false
    ∷ command_row CC_PCR_READ Absent Absent 0 false
    ∷ command_row CC_POLICY_PCR Policy Absent 0 false
    ∷ command_row CC_POLICY_RESTART Policy Absent 0 false
    ∷ command_row CC_PCR_EXTEND Pcr Absent 1 false
    ∷ command_row CC_POLICY_GET_DIGEST Policy Absent 0 false
    ∷ command_row CC_POLICY_PASSWORD Policy Absent 0 false
    ∷ []

-- what is fixed for a code; nothing where the profile has no such command
abbrev pub row_of : ℕ → Option CommandRow
row_of code = find (λ r. r.code == code) all_commands

-- Startup(TPM_SU_CLEAR): what a broker sends to its device first
abbrev pub startup_command : List ℕ
startup_command = 0x80 ∷ 0x01 ∷ 0 ∷ 0 ∷ 0 ∷ 12 ∷ 0 ∷ 0 ∷ 0x01 ∷ 0x44 ∷ 0 ∷ 0 ∷ []
