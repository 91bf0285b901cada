-- The numbers by which refusals name the rules.
use Rattle.std.specs.Prelude.{ℕ}
use Rattle.dc_program.specs.declared.rule.Rule.{Rule}
use Rattle.dc_program.specs.declared.rule.Rule.TheVariants.{Undeclared, DeclaredTwice, DeclaredDifferently, NoType, Incomplete, NoConstant, TooLarge, StructMembers, ByValue, LocalStorage, LiteralTooLarge, EnumeratorTooLarge, ReservedName, IntegerNeeded, TruthNeeded, NoPointer, NoMember, NoIndex, NoPlace, NotAssignable, WrongValue, Incomparable, NoSum, NoCast, ArmsDiffer, NoCall, NoSize, EffectInside, WrongInitializer, NoLoop, NoSwitch, LabelTwice, WrongReturn, SwitchBody, ClausesElsewhere, EffectInClause, HistoryElsewhere, HistoryNested, PredicateElsewhere, WrongQuantifier, WrongTarget, ParameterTarget, WrongLoopClauses, NoContract}

abbrev pub number_of : Rule → ℕ
number_of Undeclared = 1
number_of DeclaredTwice = 2
number_of DeclaredDifferently = 3
number_of NoType = 4
number_of Incomplete = 5
number_of NoConstant = 6
number_of TooLarge = 7
number_of StructMembers = 8
number_of ByValue = 9
number_of LocalStorage = 10
number_of LiteralTooLarge = 11
number_of EnumeratorTooLarge = 12
number_of ReservedName = 13
number_of IntegerNeeded = 14
number_of TruthNeeded = 15
number_of NoPointer = 16
number_of NoMember = 17
number_of NoIndex = 18
number_of NoPlace = 19
number_of NotAssignable = 20
number_of WrongValue = 21
number_of Incomparable = 22
number_of NoSum = 23
number_of NoCast = 24
number_of ArmsDiffer = 25
number_of NoCall = 26
number_of NoSize = 27
number_of EffectInside = 28
number_of WrongInitializer = 29
number_of NoLoop = 30
number_of NoSwitch = 31
number_of LabelTwice = 32
number_of WrongReturn = 33
number_of SwitchBody = 34
number_of ClausesElsewhere = 35
number_of EffectInClause = 36
number_of HistoryElsewhere = 37
number_of HistoryNested = 38
number_of PredicateElsewhere = 39
number_of WrongQuantifier = 40
number_of WrongTarget = 41
number_of ParameterTarget = 42
number_of WrongLoopClauses = 43
number_of NoContract = 44
