mod CommandLine
