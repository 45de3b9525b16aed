-- The number and the places by which a refusal is reported.
use Rattle.std.specs.Prelude.{ℕ}
use Rattle.cilk_parser.specs.Texts as texts
use Rattle.cilk_names.specs.Faults as names
use Rattle.cilk_checker.specs.declared.refusal.Refusal.{Refusal}
use Rattle.cilk_checker.specs.declared.refusal.Refusal.TheVariants as refusals
use Rattle.cilk_checker.specs.declared.refusal.Fields.{Fields}
use Rattle.cilk_checker.specs.declared.refusal.Fields.TheVariants as fields

-- the number of a refusal
abbrev pub number_of : Refusal → ℕ
number_of (refusals.Program n place) = texts.number n
number_of (refusals.Name n place) = names.number_of n
number_of (refusals.Input n place) = texts.number n
number_of (refusals.Malformed line) = 301
number_of (refusals.Truncated line) = 302
number_of (refusals.Event at) = 303
number_of (refusals.Frame frame) = 304
number_of (refusals.Strand strand) = 305
number_of (refusals.Hebrew strand) = 306
number_of (refusals.Class strand) = 307
number_of (refusals.ReadSource at) = 308
number_of refusals.Result = 309
number_of (refusals.Stops at) = 310
number_of (refusals.Race earlier later) = 311
number_of (refusals.ViewRace created used) = 312
number_of refusals.Memory = 401

-- the places that a refusal names
abbrev pub fields_of : Refusal → Fields
fields_of (refusals.Program n place) = fields.One place
fields_of (refusals.Name n place) = fields.One place
fields_of (refusals.Input n place) = fields.One place
fields_of (refusals.Malformed line) = fields.One line
fields_of (refusals.Truncated line) = fields.One line
fields_of (refusals.Event at) = fields.One at
fields_of (refusals.Frame frame) = fields.One frame
fields_of (refusals.Strand strand) = fields.One strand
fields_of (refusals.Hebrew strand) = fields.One strand
fields_of (refusals.Class strand) = fields.One strand
fields_of (refusals.ReadSource at) = fields.One at
fields_of refusals.Result = fields.None
fields_of (refusals.Stops at) = fields.One at
fields_of (refusals.Race earlier later) = fields.Two earlier later
fields_of (refusals.ViewRace created used) = fields.Two created used
fields_of refusals.Memory = fields.None
