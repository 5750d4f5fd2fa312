-- The task that the words of the command line name, by clap's meaning of the command.
use Rattle.std.specs.Prelude.{◌&&◌, ◌^◌, ℕ, pos, Bool, true, List, [], ◌∷◌, Option, Some, None, if◌then◌else◌, nat_lt, codes, option_map, option_and_then}
use Rattle.std.specs.Str.{bytes_eq}
use Rattle.std.specs.Str.Parse.{digits_value, without_leading_plus}
use Rattle.clap.specs.ValueTests.{is_numeral}
use Rattle.clap.specs.Walk.{Row, Rule, Text, one_of, is_empty}
use Rattle.clap.specs.Simple.{App, Shape, new_rule, new_shape, with_subcommand, subcommand_of}
use Rattle.clap.specs.Faults.{fault_of}
use Rattle.clap.specs.declared.builder.value_parser.ValueParser.TheVariants as parsers
use Rattle.gv_words.specs.declared.task.Task.{Task}
use Rattle.gv_words.specs.declared.task.Task.TheVariants.{Run, Gen}

-- a required argument, from 0 to 4,294,967,295
abbrev pub number_rule : Rule
number_rule = record (new_rule (codes "number")) { required = true; parser = Some (parsers.Signed (pos 0) (pos 4294967295)) }

abbrev pub run_shape : Shape
run_shape = new_shape (codes "run")

abbrev pub gen_shape : Shape
gen_shape = record (new_shape (codes "gen")) { rules = number_rule ∷ [] }

-- The command: it wants one of two subcommands, and has no options. Its words are the program's arguments
-- without its name.
abbrev pub program_app : App
program_app = record {
  top = record (new_shape (codes "gvtbox")) {
    no_binary_name = true;
    disable_help_flag = true;
    disable_help_subcommand = true;
    subcommand_required = true;
  };
  subs = [];
}

abbrev pub command_app : App
command_app = with_subcommand (with_subcommand program_app run_shape) gen_shape

-- the number that a text spells in decimal, below 2^32
abbrev pub number_spelled : Text → Option ℕ
number_spelled text =
    let digits = without_leading_plus text in
    if is_numeral digits && nat_lt (digits_value 10 digits) (2 ^ 32) then Some (digits_value 10 digits) else None

-- the number among matches
abbrev pub number_given : List Row → Option ℕ
number_given rows = option_and_then number_spelled (one_of (codes "number") rows)

-- the task of the subcommand that was met, with its matches
abbrev pub task_named : Option (Text × List Row) → Option Task
task_named None = None
task_named (Some (name, rows)) =
    if bytes_eq name (codes "run") then Some Run
    else (if bytes_eq name (codes "gen") then option_map Gen (number_given rows) else None)

-- whether clap takes the words: no step of its reading fails
abbrev pub is_taken : List Text → Bool
is_taken words = is_empty (fault_of command_app words)

-- the task that the words name, which clap takes
abbrev pub task_meant : List Text → Option Task
task_meant words = task_named (subcommand_of command_app words)
