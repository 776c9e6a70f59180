-- What a line asks for, as the model of scripts sees it.
use Rattle.line_parser.specs.TreeView.{line_view}
use Rattle.script_model.specs.Request as model
use Rattle.session.specs.declared.request.Request.{Request}
use Rattle.session.specs.declared.request.Request.TheVariants as request

-- what a line asks for, with its bytes
abbrev pub request_view : Request → model.Request
request_view request.TooLong = model.TooLong
request_view request.Blank = model.Blank
request_view request.Malformed = model.Malformed
request_view request.TooDeep = model.TooDeep
request_view (request.Asks line) = model.Asks (line_view line)
