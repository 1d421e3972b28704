mod AtPorts
