-- The commands as clap sees them: no help, no version, flags and positions alone.
use Rattle.std.specs.Prelude.{ℕ, List, true, Some, codes}
use Rattle.clap.specs.Words.{App, Rule, new_app, new_rule, with_rule}
use Rattle.clap.specs.declared.builder.action.ArgAction.TheVariants.{Set, Append, SetTrue}

-- an option that takes no value
abbrev pub flag : List ℕ → Rule
flag id = record (new_rule id) { long = Some id; action = Some SetTrue }

-- an option that takes a value
abbrev pub valued : List ℕ → Rule
valued id = record (new_rule id) { long = Some id; action = Some Set }

-- a position that must be there
abbrev pub position : List ℕ → Rule
position id = record (new_rule id) { required = true; action = Some Set }

-- a last position that must be there, and may be there several times
abbrev pub positions : List ℕ → Rule
positions id = record (new_rule id) { required = true; action = Some Append }

abbrev pub plain_app : List ℕ → App
plain_app name =
    let a = new_app name in
    record a { top = record a.top { disable_help_flag = true; disable_version_flag = true } }

-- `run [--focus] [--summary] [--cite] [--tally KINDS]`
abbrev pub run_options : App
run_options =
    let flags = with_rule (with_rule (plain_app (codes "run")) (flag (codes "focus"))) (flag (codes "summary")) in
    with_rule (with_rule flags (flag (codes "cite"))) (valued (codes "tally"))

-- `run [--focus] [--summary] [--cite] [--tally KINDS] MODELS LOG`
abbrev pub run_app : App
run_app = with_rule (with_rule run_options (position (codes "models"))) (position (codes "log"))

-- `model [--minimal] MODELS`
abbrev pub model_app : App
model_app = with_rule (with_rule (plain_app (codes "model")) (flag (codes "minimal"))) (position (codes "models"))

-- `drill [--focus] SEED N`
abbrev pub drill_app : App
drill_app =
    let optional = with_rule (plain_app (codes "drill")) (flag (codes "focus")) in
    with_rule (with_rule optional (position (codes "seed"))) (position (codes "lines"))

-- `feeds [--focus] MODELS LOG..`
abbrev pub feeds_app : App
feeds_app =
    let optional = with_rule (plain_app (codes "feeds")) (flag (codes "focus")) in
    with_rule (with_rule optional (position (codes "models"))) (positions (codes "log"))

-- `import CSV`
abbrev pub import_app : App
import_app = with_rule (plain_app (codes "import")) (position (codes "table"))

-- `audit MODELS LOG OUTPUT`
abbrev pub audit_app : App
audit_app = with_rule (with_rule (with_rule (plain_app (codes "audit")) (position (codes "models"))) (position (codes "log"))) (position (codes "output"))
