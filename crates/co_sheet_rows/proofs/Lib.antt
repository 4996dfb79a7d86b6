mod FaultExamples
