use Rattle.dc_scan.proofs.Scanned.{every_text}
use Rattle.dc_scan.proofs.scanner.scan.Goals as goal

pub returns-clause-every : goal.returns-clause-every
returns-clause-every c =
    every_text c.args.bytes.now c.scan_text.result c.scan_text.ensures.text c.scan_text.ensures.line c.scan_text.ensures.shape
