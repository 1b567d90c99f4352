-- The value that one token is.
use Rattle.std.specs.Prelude.{Option, Some, None, option_map}
use Rattle.json.specs.Token.{Token, begin_object, end_object, begin_array, end_array, key, bad}
use Rattle.json.specs.Token as token
use Rattle.serde_json.specs.Data.{Data, null, boolean, number, string}
use Rattle.serde_json.specs.Read.{number_of}

-- the value of a token that is a value by itself
abbrev pub scalar : Token → Option Data
scalar begin_object = None
scalar end_object = None
scalar begin_array = None
scalar end_array = None
scalar (key s) = None
scalar (token.string s) = Some (string s)
scalar (token.number s) = option_map number (number_of s)
scalar (token.boolean b) = Some (boolean b)
scalar token.null = Some null
scalar bad = None
