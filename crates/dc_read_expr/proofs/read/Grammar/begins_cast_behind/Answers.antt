use Rattle.std.proofs.Common.{◌≡◌, drop, subst}
use Rattle.dc_syntax.specs.Reading as spec
use Rattle.dc_read_expr.proofs.read.Grammar.begins_cast_behind.Goals as goal

pub returns : goal.returns
returns g c =
    let s = c.args.self.now in
    subst (λ k. c.begins_cast.result ≡ spec.begins_cast s.names.now.names (drop k s.tokens.now)) c.behind-next.ensures c.begins_cast.ensures
