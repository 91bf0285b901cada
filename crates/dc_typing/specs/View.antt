-- What a judge of the code knows, as plain data.
use Rattle.std.specs.Prelude.{List}
use Rattle.dc_layout.specs.Types.{structs_view}
use Rattle.dc_scope.specs.Scopes.{Names}
use Rattle.dc_typing.specs.Known.{Known}
use Rattle.dc_typing.specs.Lists.{around_view}
use Rattle.dc_typing.specs.declared.judge.Judge.{Judge}

abbrev pub known : Judge → Known
known j = record { scopes = j.scopes.now; structs = structs_view j.structs.now; parameters = around_view j.parameters }

-- with other lists of parameters around
abbrev pub knowing : Known → List Names → Known
knowing k around = record k { parameters = around }
