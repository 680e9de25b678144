-- What each type of operators says beside the keys that types share.
pub mod ContainerReading
pub mod Moving
pub mod Copying
pub mod Adding
pub mod Removing
pub mod Flattening
pub mod Retaining
pub mod Filtering
pub mod CsvParsing
pub mod JsonParsing
pub mod KeyValueParsing
pub mod RegexParsing
pub mod TimeParsing
pub mod SeverityParsing
pub mod SyslogParsing
pub mod Routing
pub mod Recombining
